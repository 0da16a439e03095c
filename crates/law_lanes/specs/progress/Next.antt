-- What can come next in a run.
use Rattle.std.specs.Prelude.{List}
use Rattle.board_model.specs.declared.board.Board.{Board}
use Rattle.history_model.specs.declared.event.Event.{Event}
use Rattle.history_model.specs.Runs.{Allowed}

-- some event is allowed after the history
pub record Next (board : Board) (h : List Event) : Type 0 where
  pub event : Event
  pub allowed : Allowed board h event
