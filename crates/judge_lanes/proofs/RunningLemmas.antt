-- A run of a valid board.
use Rattle.std.proofs.Common.{◌≡◌, ℕ, ◌≤◌, List, false, nat_lt, arith}
use Rattle.std.proofs.lemmas.Bool.Decides.{nat_tests}
use Rattle.board_model.specs.declared.board.Board.{Board}
use Rattle.board_model.specs.Ways.{bound_of}
use Rattle.board_model.specs.Valid.{IsValid}
use Rattle.board_tree.proofs.DecodableLemmas.{IsDecodable-valid}
use Rattle.history_model.specs.declared.event.Event.{Event}
use Rattle.history_model.specs.Runs.{Run}
use Rattle.law_lanes.proofs.Laws.{Within-limits, WellFormed-depths}
use Rattle.judge_lanes.specs.Running.{IsRunning}
use Rattle.board_model.proofs.Laws.{WellFormed-parts}

not_above : (most n : ℕ) → nat_lt most n ≡ false → n ≤ most
not_above most n none = grind (arith, nat_tests)

pub IsRunning-valid : (board : Board) (h : List Event) → IsValid board → Run board h → IsRunning board h
IsRunning-valid board h valid run =
    let form = WellFormed-parts board valid.well_formed in
    record {
      well_formed = valid.well_formed;
      decodable = IsDecodable-valid board valid;
      run = run;
      short = not_above 500000 (bound_of board) valid.bound;
      discards = form.discards_fit;
      drops = form.drops_fit;
      lanes = λ lane. Within-limits board h lane (WellFormed-depths board valid.well_formed) run;
    }
