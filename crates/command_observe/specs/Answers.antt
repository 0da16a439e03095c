-- observe: what is written for a log, the status that it ends with, and why a log is refused.
use Rattle.std.specs.Prelude.{◌≡◌, ℕ, List, Ok}
use Rattle.board_model.specs.declared.board.Board.{Board}
use Rattle.board_model.specs.Valid.{IsValid}
use Rattle.history_model.specs.declared.event.Event.{Event}
use Rattle.history_model.specs.declared.rule.Rule.TheVariants.{Tagged}
use Rattle.history_model.specs.Runs.{Run, history_of}
use Rattle.law_early.specs.Early.{acts_of, NothingFlies}
use Rattle.trace_reader.specs.Traces.{trace_read}
use Rattle.observe_told.specs.declared.seen.Log.{Log}
use Rattle.observe_log.specs.Logs.{log_read}
use Rattle.observe_log.specs.Told.{Tells}
use Rattle.observe_order.specs.Judging.{ActsRun, ActsStop}
use Rattle.program_status.specs.declared.status.Status.{Status}
use Rattle.program_status.specs.declared.status.Status.TheVariants.{Done, NotTold, TooMuch, ToldTo}
use Rattle.command_observe.specs.Logs.{RefusesLog, IsLogText}

-- a text is read as a valid board and a run of it that a log tells of, at whose end nothing is in flight
pub record TellsRun (log : Log) (text : List ℕ) : Type 0 where
  pub board : Board
  pub events : List Event
  pub read_back : trace_read text ≡ Ok (board, events)
  pub valid : IsValid board
  pub run : Run board (history_of events)
  pub told : Tells log board (acts_of events)
  pub still : NothingFlies Tagged board (history_of events)

-- the input is the text of a log, and what is written tells a run of it
pub record AnswersObserve (input text : List ℕ) : Type 0 where
  pub log : Log
  pub reads : log_read input ≡ Ok log
  pub writes : TellsRun log text

-- what the ending says of the acts
abbrev pub EndsActs : Board → List Event → Status → Type 0
EndsActs board events Done = ActsRun board events
EndsActs board events (ToldTo line why) = ActsStop board events why
EndsActs board events _ = ⊥

-- a text is read as a valid board and acts of it that a log tells of, and the ending says whether some run has them
pub record TellsActs (log : Log) (text : List ℕ) (ending : Status) : Type 0 where
  pub board : Board
  pub events : List Event
  pub read_back : trace_read text ≡ Ok (board, events)
  pub valid : IsValid board
  pub told : Tells log board (acts_of events)
  pub ends : EndsActs board events ending

-- the input is the text of a log, and what is written tells its acts
pub record AnswersActs (input text : List ℕ) (ending : Status) : Type 0 where
  pub log : Log
  pub reads : log_read input ≡ Ok log
  pub writes : TellsActs log text ending

-- a log is refused by what it tells, of which nothing more is said; any other text by its first fault
abbrev pub RefusesObserve : List ℕ → Status → Type 0
RefusesObserve input (NotTold line refusal) = IsLogText input
RefusesObserve input (TooMuch line excess) = IsLogText input
RefusesObserve input status = RefusesLog input status

-- of no log it is said beforehand that it is answered: that a refusal is right is tested
abbrev pub IsToldSurely : List ℕ → Type 0
IsToldSurely input = ⊥
