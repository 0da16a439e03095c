use Rattle.law_early.proofs.LinedLemmas.{lined_runs, lined_complete, lined_complete_any, lined_refused, lined_any_order, lined_turns, lined_words}
use Rattle.law_early.proofs.early_arrivals_suffice_on_valid_boards.Goals as goal

pub returns : goal.returns
returns c =
    record {
      runs = λ rule board h valid run. lined_runs rule board valid h run;
      complete = λ board h valid run complete. lined_complete board valid h run complete;
      complete_in_any_order = λ board h k valid run other landed same complete. lined_complete_any board valid h k run other landed same complete;
      refused = λ rule board h acts act valid run same. lined_refused rule board valid h act acts run same;
      in_any_order = λ rule board h k act valid run other landed same. lined_any_order rule board valid h k act run other landed same;
      turns = λ rule board h master valid run. lined_turns rule board valid h master run;
      words = λ rule board h word valid run. lined_words rule board valid h word run;
    }
