-- A trace text that is read as a valid board and events of it, or refused.
use Rattle.std.specs.Prelude.{◌≡◌, ◌<◌, ◌^◌, ℕ, List, length, None, Ok}
use Rattle.board_model.specs.declared.board.Board.{Board}
use Rattle.board_model.specs.Valid.{IsValid}
use Rattle.history_model.specs.declared.event.Event.{Event}
use Rattle.history_model.specs.declared.why.Why.{Why}
use Rattle.history_model.specs.Runs.{Run, Complete, history_of}
use Rattle.trace_reader.specs.Traces.{trace_read}
use Rattle.program_status.specs.declared.status.Status.{Status}
use Rattle.program_input.specs.Refusals.{tree_fault, trace_refusal, RefusesBy}
use Rattle.program_input.specs.declared.trace.TreeTrace.{TreeTrace}

-- the input is the text of this board, which has no fault, and of these events
pub record ReadsTrace (input : List ℕ) (board : Board) (events : List Event) : Type 0 where
  pub read : trace_read input ≡ Ok (board, events)
  pub tree : tree_fault board ≡ None

-- it is no text of a valid board and of events: refused by its first fault, or for want of memory
abbrev pub RefusesTrace : List ℕ → Status → Type 0
RefusesTrace input status = RefusesBy (trace_refusal input) status

-- the input is the text of a valid board and of events of which this one is refused for this cause
pub record IsRefused (Refuses : Board → List Event → ℕ → Why → Type 0) (input : List ℕ) (event : ℕ) (why : Why) : Type 0 where
  pub board : Board
  pub events : List Event
  pub reads : ReadsTrace input board events
  pub valid : IsValid board
  pub refused : Refuses board events event why

-- the input is the text of a valid board and of a run of it
pub record IsRunTrace (input : List ℕ) : Type 0 where
  pub board : Board
  pub events : List Event
  pub reads : ReadsTrace input board events
  pub run : Run board (history_of events)

-- the input is the text of a valid board and of a complete run of it
pub record IsCompleteTrace (input : List ℕ) : Type 0 where
  pub board : Board
  pub events : List Event
  pub reads : ReadsTrace input board events
  pub run : Run board (history_of events)
  pub complete : Complete board (history_of events)

-- what was read of a trace text: a valid board, and fewer than 2^32 events
pub record ReadsTree (input : List ℕ) (read : TreeTrace) : Type 0 where
  pub reads : ReadsTrace input read.tree read.events
  pub valid : IsValid read.tree
  pub few : length read.events < 2 ^ 32
