-- How many data phases of each write went through: PCI Local Bus Specification 2.2, section 3.3.3.2.1 (from memory;
-- a target that disconnects).
use Rattle.std.specs.Prelude.{◌≡◌, ℕ, ◌+◌, ◌<◌, List, [], ◌∷◌, Option, Some, None, map, slice_get}
use Rattle.list_facts.specs.Lists.{changed_at}
use Rattle.pci_command.specs.declared.op_id.OpId.{OpId}
use Rattle.board_model.specs.declared.agents.Master.{Master}
use Rattle.board_model.specs.declared.bridge.Place.{Place}
use Rattle.board_model.specs.declared.op.Op.{Op}
use Rattle.board_model.specs.declared.board.Board.{Board}
use Rattle.board_model.specs.Requests.{op_of, tries_of}
use Rattle.history_model.specs.declared.event.By.{By}
use Rattle.history_model.specs.declared.event.Step.TheVariants.{Part}
use Rattle.history_model.specs.declared.event.Event.{Event}
use Rattle.history_model.specs.declared.event.Event.TheVariants.{Act}
use Rattle.history_model.specs.Words.{through}
use Rattle.machine_steps.specs.Counts.{or_zero, none_of_any}

-- the list, empty where there is none
abbrev pub list_in : {X : Type 0} → Option (List X) → List X
list_in None = []
list_in (Some xs) = xs

-- a count for each operation of each master: that of an operation, where it is there
abbrev pub count_at : List (List ℕ) → OpId → Option ℕ
count_at gone o = slice_get (list_in (slice_get gone o.master)) o.index

-- the count of an operation; 0 where it is not there
abbrev pub count_in : List (List ℕ) → OpId → ℕ
count_in gone o = or_zero (count_at gone o)

-- so many more for the operation
abbrev pub added : OpId → ℕ → List (List ℕ) → List (List ℕ)
added o more gone = changed_at (λ row. changed_at (λ n. n + more) row (Some o.index)) gone (Some o.master)

-- nothing went through
abbrev pub nothing_yet : Board → List (List ℕ)
nothing_yet board = map (λ (master : Master). none_of_any master.ops) board.masters

-- each count fits a byte, as the data phases of a write do
pub record AreBytes (gone : List (List ℕ)) : Type 0 where
  pub each : (o : OpId) → count_in gone o < 256

-- the counts stand for a history, of the board or of one bus
pub record ThroughStands (board : Board) (p : List Event) (gone : List (List ℕ)) : Type 0 where
  pub each : (o : OpId) (op : Op) → op_of board o ≡ Some op → count_at gone o ≡ Some (through p o)

-- wherever the counts stood for a history, they stand for that history and a part of an operation that is tried once
pub record AddsPart (old : List (List ℕ)) (o : OpId) (phases : ℕ) (new : List (List ℕ)) : Type 0 where
  pub stands : (board : Board) (p : List Event) (on : ℕ) (by : By) (place : Place) (op : Op) → ThroughStands board p old → op_of board o ≡ Some op → tries_of op ≡ 1
      → ThroughStands board (Act on by o (Part phases) place ∷ p) new
