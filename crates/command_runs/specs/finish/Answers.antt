-- finish: what is written for a trace text, and with which status it is refused.
use Rattle.std.specs.Prelude.{◌≡◌, ℕ, List, Ok}
use Rattle.board_model.specs.declared.board.Board.{Board}
use Rattle.board_model.specs.Valid.{IsValid}
use Rattle.history_model.specs.declared.event.Event.{Event}
use Rattle.trace_text.specs.Traces.{trace_of}
use Rattle.trace_reader.specs.Traces.{trace_read}
use Rattle.judge_state.specs.Refused.{FirstRefused}
use Rattle.judge_finish.specs.Finishing.{Finishes}
use Rattle.program_status.specs.declared.status.Status.{Status}
use Rattle.program_status.specs.declared.status.Status.TheVariants.{NotRun}
use Rattle.program_input.specs.Traces.{ReadsTrace, RefusesTrace, IsRefused}

-- the input is the text of a valid board and of a run of it, and what is written is the text of that run going on by
-- its next events to its end, which is read as this
pub record AnswersFinish (input text : List ℕ) : Type 0 where
  pub board : Board
  pub events : List Event
  pub whole : List Event
  pub reads : ReadsTrace input board events
  pub valid : IsValid board
  pub finishes : Finishes board events whole
  pub written : text ≡ trace_of board whole
  pub read_back : trace_read text ≡ Ok (board, whole)

-- refused: as no run, or as no trace text
abbrev pub RefusesFinish : List ℕ → Status → Type 0
RefusesFinish input (NotRun event why) = IsRefused FirstRefused input event why
RefusesFinish input status = RefusesTrace input status
