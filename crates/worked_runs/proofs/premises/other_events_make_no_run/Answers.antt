use Rattle.std.proofs.Common.{◌≡◌, Bool, true, false, cond, eqb, List, [], refl}
use Rattle.board_model.specs.Ways.{end_of}
use Rattle.history_model.specs.declared.item.Carried.{Carried}
use Rattle.worked_runs.specs.OneBus.{one_word_board}
use Rattle.worked_runs.specs.Premises.{nothing_sent, no_stamps}
use Rattle.worked_runs.proofs.premises.other_events_make_no_run.Goals as goal

abbrev nothing : List Carried
nothing = []

-- of nothing that is sent nothing comes to any bus
nothing_comes : (same : Bool) → nothing ≡ cond same nothing nothing
nothing_comes true = refl
nothing_comes false = refl

pub returns-clause-pasts : goal.returns-clause-pasts
returns-clause-pasts c =
    record {
      each = λ bus is. record {
        came = nothing_sent;
        comes = λ lane. nothing_comes (eqb (end_of one_word_board lane) bus);
        times = no_stamps;
        timed = λ lane ends. refl;
        run = tt;
        in_time = tt;
        puts = λ lane bridge is_there starts. refl;
        stamped = λ lane bridge is_there starts. refl;
      };
      no_other = λ bus is. refl;
      bridges_alone = λ lane none. (refl, refl);
    }
