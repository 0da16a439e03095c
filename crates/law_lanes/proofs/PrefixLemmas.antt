-- What stands before in a run is a run.
use Rattle.std.proofs.Common.{List, [], ◌∷◌, ◌++◌}
use Rattle.board_model.specs.declared.board.Board.{Board}
use Rattle.history_model.specs.declared.event.Event.{Event}
use Rattle.history_model.specs.Runs.{Run}

pub Run-before : (board : Board) (later h : List Event) → Run board (later ++ h) → Run board h
Run-before board [] h run = run
Run-before board (e ∷ later) h run = Run-before board later h run.1
