-- What holds of every run of a valid board.
use Rattle.std.specs.Prelude.{◌+◌, ◌++◌, ◌≤◌, List, length}
use Rattle.board_model.specs.declared.board.Board.{Board}
use Rattle.board_model.specs.Ways.{bound_of}
use Rattle.history_model.specs.declared.event.Event.{Event}
use Rattle.history_model.specs.Runs.{Run, Complete}
use Rattle.history_model.specs.Local.{Matched}
use Rattle.history_model.specs.Knowledge.{Fresh}
use Rattle.history_model.specs.Left.{left_of}
use Rattle.law_lanes.specs.progress.Next.{Next}
use Rattle.law_delivered.specs.left.Left.{ReturnsAsLeft, ReturnsAsHeld}

-- of one run
pub record LawsOfRun (board : Board) (h : List Event) : Type 0 where
  -- each completion is taken by the operation that it was made for
  pub matched : Matched board h
  -- each read that was told of a write reads its words after it has landed
  pub fresh : Fresh board h
  -- and returns the word as that write, or what landed later, left it
  pub as_left : ReturnsAsLeft board h
  -- each read returns what its word held
  pub as_held : ReturnsAsHeld board h
  -- it has at most as many events as the board's bound
  pub bounded : length h ≤ bound_of board
  -- where it is not complete, some event is allowed
  pub goes_on : ¬ Complete board h → Next board h
  -- events that follow lower what is left by their number
  pub falls : (later : List Event) → Run board (later ++ h) → length later + left_of board (later ++ h) ≤ left_of board h
