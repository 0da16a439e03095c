-- A trace text that is printed, and read again.
use Rattle.std.specs.Prelude.{◌≡◌, ℕ, List, Ok}
use Rattle.board_model.specs.declared.board.Board.{Board}
use Rattle.history_model.specs.declared.event.Event.{Event}
use Rattle.trace_text.specs.Traces.{trace_of}
use Rattle.trace_reader.specs.Traces.{trace_read}

-- the trace text of these events, which is read as them
pub record IsTraceOf (board : Board) (events : List Event) (text : List ℕ) : Type 0 where
  pub written : text ≡ trace_of board events
  pub read_back : trace_read text ≡ Ok (board, events)
