-- fill: what is written for a trace text, and with which status it is refused.
use Rattle.std.specs.Prelude.{◌≡◌, ℕ, List, Ok}
use Rattle.board_model.specs.declared.board.Board.{Board}
use Rattle.board_model.specs.Valid.{IsValid}
use Rattle.history_model.specs.declared.event.Event.{Event}
use Rattle.history_model.specs.declared.why.Why.{Why}
use Rattle.history_model.specs.Runs.{Run, history_of}
use Rattle.law_early.specs.Early.{acts_of}
use Rattle.trace_roundtrip.specs.Printed.{IsTraceOf}
use Rattle.judge_fill.specs.Filling.{Fills, ActRefused}
use Rattle.program_status.specs.declared.status.Status.{Status}
use Rattle.program_status.specs.declared.status.Status.TheVariants.{NotRun}
use Rattle.program_input.specs.Traces.{ReadsTrace, RefusesTrace}

-- the input is the text of a valid board and of events, and what is written is the text of a run of their acts, in
-- which all that is in flight arrives before the next act, and at the end
pub record AnswersFill (input text : List ℕ) : Type 0 where
  pub board : Board
  pub events : List Event
  pub whole : List Event
  pub reads : ReadsTrace input board events
  pub valid : IsValid board
  pub fills : Fills board events whole
  pub writes : IsTraceOf board whole text

-- the input is the text of a valid board and of events of which this one is an act that is refused: no run has the
-- acts before it and then this one, wherever their arrivals are put
pub record HasNoRun (input : List ℕ) (event : ℕ) (why : Why) : Type 0 where
  pub board : Board
  pub events : List Event
  pub reads : ReadsTrace input board events
  pub valid : IsValid board
  pub refused : ActRefused board events event why

-- refused: as acts that no run has, or as no trace text
abbrev pub RefusesFill : List ℕ → Status → Type 0
RefusesFill input (NotRun event why) = HasNoRun input event why
RefusesFill input status = RefusesTrace input status

-- the input is the text of a valid board and of events whose acts some run has
pub record HasRun (input : List ℕ) : Type 0 where
  pub board : Board
  pub events : List Event
  pub reads : ReadsTrace input board events
  pub history : List Event
  pub run : Run board history
  pub same_acts : acts_of history ≡ acts_of (history_of events)
