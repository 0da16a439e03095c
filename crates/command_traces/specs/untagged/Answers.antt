-- untagged: what is written for a trace text, and with which status it is refused.
use Rattle.std.specs.Prelude.{◌≡◌, ◌↔◌, ℕ, Bool, true, List, length}
use Rattle.board_model.specs.declared.board.Board.{Board}
use Rattle.board_model.specs.Valid.{IsValid}
use Rattle.history_model.specs.declared.event.Event.{Event}
use Rattle.history_model.specs.declared.why.Why.{Why}
use Rattle.history_model.specs.declared.rule.Rule.TheVariants.{Untagged}
use Rattle.history_model.specs.Runs.{RunBy, history_of}
use Rattle.law_untagged.specs.Apart.{Apart}
use Rattle.program_status.specs.declared.status.Status.{Status}
use Rattle.program_status.specs.declared.status.Status.TheVariants.{NoMemory, NotRun}
use Rattle.program_input.specs.Traces.{ReadsTrace, RefusesTrace}
use Rattle.untagged_check.specs.declared.verdict.Stale.{Stale}
use Rattle.untagged_check.specs.Judged.{UntaggedVerdict, UntaggedRefused}
use Rattle.command_traces.specs.untagged.Lines.{untagged_text}

-- a run of a board on bridges that keep no local master, its stale reads, and whether masters are apart; and their lines
pub record Tells (board : Board) (events : List Event) (text : List ℕ) : Type 0 where
  pub stale : List Stale
  pub apart : Bool
  pub verdict : UntaggedVerdict board events stale
  pub is_apart : (apart ≡ true) ↔ Apart board
  pub written : text ≡ untagged_text board (length events) stale apart

-- the input is the text of a valid board and of such a run of it, and its lines are written
pub record AnswersUntagged (input text : List ℕ) : Type 0 where
  pub board : Board
  pub events : List Event
  pub reads : ReadsTrace input board events
  pub valid : IsValid board
  pub tells : Tells board events text

-- the input is the text of a valid board and of events that are no run of it there, for this first event and this cause
pub record IsNoUntaggedRun (input : List ℕ) (event : ℕ) (why : Why) : Type 0 where
  pub board : Board
  pub events : List Event
  pub reads : ReadsTrace input board events
  pub valid : IsValid board
  pub refused : UntaggedRefused board events event why

-- refused: as no run there, or as no trace text
abbrev pub RefusesUntagged : List ℕ → Status → Type 0
RefusesUntagged input (NotRun event why) = IsNoUntaggedRun input event why
RefusesUntagged input status = RefusesTrace input status

-- the status for any other events
abbrev pub RefusesEvents : Board → List Event → Status → Type 0
RefusesEvents board events NoMemory = Unit {0}
RefusesEvents board events (NotRun event why) = UntaggedRefused board events event why
RefusesEvents board events _ = ⊥

-- the input is the text of a valid board and of a run of it there
pub record IsUntaggedTrace (input : List ℕ) : Type 0 where
  pub board : Board
  pub events : List Event
  pub reads : ReadsTrace input board events
  pub run : RunBy Untagged board (history_of events)
