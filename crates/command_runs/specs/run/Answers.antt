-- run: what is written for a board text.
use Rattle.std.specs.Prelude.{ℕ, ◌≡◌, List, Ok}
use Rattle.board_model.specs.declared.board.Board.{Board}
use Rattle.history_model.specs.declared.event.Event.{Event}
use Rattle.trace_text.specs.Traces.{trace_of}
use Rattle.trace_reader.specs.Traces.{trace_read}
use Rattle.judge_check.specs.Verdicts.{CompleteRun}
use Rattle.program_input.specs.Boards.{ReadsBoard}

-- the input is the text of a valid board, and what is written is the trace of a complete run of it, which is read as
-- this board and this run
pub record AnswersRun (input trace : List ℕ) : Type 0 where
  pub board : Board
  pub events : List Event
  pub reads : ReadsBoard input board
  pub runs : CompleteRun board events
  pub written : trace ≡ trace_of board events
  pub read_back : trace_read trace ≡ Ok (board, events)

-- a trace of a complete run of the board, which is read as this run of it
pub record RunsTo (board : Board) (trace : List ℕ) : Type 0 where
  pub events : List Event
  pub runs : CompleteRun board events
  pub written : trace ≡ trace_of board events
  pub read_back : trace_read trace ≡ Ok (board, events)
