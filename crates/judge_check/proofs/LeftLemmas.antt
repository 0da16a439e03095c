-- Where a run can go on, something is left.
use Rattle.std.proofs.Common.{◌≡◌, ℕ, ◌<◌, List, [], ◌∷◌, arith}
use Rattle.board_model.specs.declared.board.Board.{Board}
use Rattle.history_model.specs.declared.event.Event.{Event}
use Rattle.history_model.specs.Runs.{Run, Complete}
use Rattle.history_model.specs.Left.{left_of}
use Rattle.law_lanes.specs.progress.Next.{Next}
use Rattle.law_delivered.specs.Laws.{LawsOfRun}

-- the event that can come lowers what is left
pub some_left : (board : Board) (h : List Event) (left : ℕ) → LawsOfRun board h → Run board h → ¬ Complete board h → left ≡ left_of board h → 0 < left
some_left board h left laws run incomplete is =
    let next : Next board h = laws.goes_on incomplete in
    omega (arith, laws.falls (next.event ∷ []) (next.allowed, run), is)
