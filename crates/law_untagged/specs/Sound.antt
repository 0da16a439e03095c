-- What holds of runs on bridges that keep no local master, where masters are apart.
use Rattle.std.specs.Prelude.{◌≡◌, ◌≤◌, List, [], length}
use Rattle.board_model.specs.declared.board.Board.{Board}
use Rattle.board_model.specs.Ways.{bound_of}
use Rattle.history_model.specs.declared.event.Event.{Event}
use Rattle.history_model.specs.Local.{Matched}
use Rattle.history_model.specs.Knowledge.{Fresh}
use Rattle.history_model.specs.Runs.{Run}
use Rattle.law_delivered.specs.left.Left.{ReturnsAsLeft, ReturnsAsHeld}
use Rattle.law_untagged.specs.Stale.{stale_of}

-- it is a run of bridges that keep it, and all that holds of those holds of it
pub record SoundRun (board : Board) (h : List Event) : Type 0 where
  pub run : Run board h
  pub fresh : Fresh board h
  pub as_left : ReturnsAsLeft board h
  pub as_held : ReturnsAsHeld board h
  pub matched : Matched board h
  pub bounded : length h ≤ bound_of board
  pub none_stale : stale_of board h ≡ []
