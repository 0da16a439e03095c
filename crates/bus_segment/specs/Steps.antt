-- How far a step of a turn goes: in stamps and counts, and where it does nothing.
use Rattle.std.specs.Prelude.{◌≡◌, ◌≢◌, ℕ, ◌+◌, ◌≤◌, Bool, true, List, [], Some, slice_get}
use Rattle.std.specs.List.{AllByRecursion}
use Rattle.pci_command.specs.declared.op_id.OpId.{OpId}
use Rattle.board_model.specs.declared.bridge.Lane.{Lane as BridgeLane}
use Rattle.board_model.specs.declared.board.Board.{Board}
use Rattle.history_model.specs.declared.event.By.{By}
use Rattle.history_model.specs.declared.event.By.TheVariants.{Master, Lane as ByLane}
use Rattle.history_model.specs.declared.event.Event.{Event}
use Rattle.history_model.specs.World.{World}
use Rattle.history_model.specs.Answers.{wants_in, answer_in}
use Rattle.law_local.specs.Quiet.{IsRetry}
use Rattle.lane_items.specs.declared.item.Item.{Item}
use Rattle.lane_items.specs.Lane.{in_hand}
use Rattle.bus_core.specs.Bus.{BusView, Shape, arrivals_at, BusStands}
use Rattle.bus_core.specs.Calls.{stamp_of}

-- Stamps.

-- so it is of each of these items at all ends
abbrev pub AllItems : {End : Type 0} → (End → List Item) → (Item → Type 0) → List End → Type 0
AllItems {End} items P ends = (n : ℕ) (end : End) → slice_get ends n ≡ Some end → AllByRecursion P (items end)

-- Stamps rise one by one: they stay in any set of numbers that has the first one, and with the stamp of each item that was
-- got the next number; the stamp of the segment, and those of the items that were sent.
pub record StampsRise {End : Type 0} (sent got : End → List Item) (old new : ℕ) (ends after : List End) : Type 0 where
  pub rise : (among : ℕ → Bool) → among old ≡ true → AllItems got (λ item. among (stamp_of item + 1) ≡ true) after → AllItems sent (λ item. among (stamp_of item) ≡ true) ends
      → (among new ≡ true) × AllItems sent (λ item. among (stamp_of item) ≡ true) after

-- Counts.

-- at no port more items arrived than this
pub record ArrivedUpTo (most : ℕ) (s : BusView) : Type 0 where
  pub up_to : (n count : ℕ) → slice_get (arrivals_at s) n ≡ Some count → count ≤ most

-- Nothing.

-- nothing came at the port of this place, and at the others nothing was received
pub record NothingCame {End : Type 0} (had got : End → List Item) (place : ℕ) (ends after : List End) : Type 0 where
  pub nothing : (end : End) → slice_get after place ≡ Some end → in_hand (had end) (got end) ≡ []
  pub others : (n : ℕ) → n ≢ place → slice_get after n ≡ slice_get ends n

-- wherever the initiator presents the operation, it gets a Retry
pub record GetsRetry (board : Board) (s : BusView) (by : By) (o : OpId) : Type 0 where
  pub retry : (tags : By → OpId → ℕ) (world : World) (p : List Event) → BusStands board tags world p s
      → wants_in board world p s.bus by o ≡ true → IsRetry (answer_in board world p s.bus by o)

-- an operation of the master at this place
pub record IsOfMaster (shape : Shape) (place : ℕ) (by : By) (o : OpId) : Type 0 where
  pub is_by : by ≡ Master
  pub master : slice_get shape.masters place ≡ Some o.master

-- what the lane of the port at this place presents of an operation
pub record IsOfLane (shape : Shape) (place : ℕ) (op : OpId) (by : By) (o : OpId) : Type 0 where
  pub lane : BridgeLane
  pub there : slice_get shape.lanes place ≡ Some lane
  pub is_by : by ≡ ByLane lane
  pub same : o ≡ op

-- the bus did nothing and is as it was, and these are retried
pub record Retries {End : Type 0} (board : Board) (old new : BusView) (ends after : List End) (presented : By → OpId → Type 0) : Type 0 where
  pub same_ends : after ≡ ends
  pub same_bus : new ≡ old
  pub retried : (by : By) (o : OpId) → presented by o → GetsRetry board old by o
