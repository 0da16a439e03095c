-- Who waits for a held slot: PCI Local Bus Specification 2.2, section 3.3.3.3.1 (from memory; a master repeats a delayed
-- request until it ends).
use Rattle.std.specs.Prelude.{◌≡◌, ℕ, ◌≤◌, Bool, Option, Some, List, if◌then◌else◌}
use Rattle.std.specs.List.{find, AllByRecursion}
use Rattle.list_facts.specs.Lists.{total}
use Rattle.pci_command.specs.declared.op_id.OpId.{OpId}
use Rattle.pci_command.specs.declared.op_id.Outcome.{Outcome}
use Rattle.board_model.specs.declared.bridge.Lane.{Lane as BridgeLane}
use Rattle.board_model.specs.declared.board.Board.{Board}
use Rattle.board_model.specs.Ways.{start_of, lane_back}
use Rattle.history_model.specs.declared.event.By.{By}
use Rattle.history_model.specs.declared.event.By.TheVariants.{Master, Lane as ByLane}
use Rattle.history_model.specs.declared.event.Event.{Event}
use Rattle.history_model.specs.declared.item.Carried.{Carried}
use Rattle.history_model.specs.declared.item.Carried.TheVariants.{Ask, Done}
use Rattle.history_model.specs.declared.item.Slot.{Slot}
use Rattle.history_model.specs.Lanes.{is_done_for}
use Rattle.history_model.specs.World.{World, is_own, world_of}
use Rattle.history_model.specs.Answers.{asked, asks_same}

-- a delayed request with the same request on the bus
abbrev pub is_equal_ask : Board → ℕ → OpId → Carried → Bool
is_equal_ask board on o item = asks_same board on (Some o) (asked item)

-- the delayed request of the operation stands, and none with the same request stands before it
pub record StandsFirst (board : Board) (on : ℕ) (o : OpId) (standing : List Carried) : Type 0 where
  pub number : ℕ
  pub first : find (is_equal_ask board on o) standing ≡ Some (Ask o number)

-- the operation waits at its initiator: it is its master's turn, or the first of its request that stands on the lane
abbrev pub Waits : Board → (ℕ → Option OpId) → World → ℕ → By → OpId → Type 0
Waits board turn world on Master o = turn o.master ≡ Some o
Waits board turn world on (ByLane lane) o = StandsFirst board on o (world lane).standing

-- counts the slots that are own ones of the initiator for the operation
abbrev pub own_count : Board → ℕ → By → OpId → Slot → ℕ
own_count board on by o slot = if is_own board on by o slot then 1 else 0

-- who waits for the slots, where these are the masters' turns and this is on the lanes
pub record Owners (board : Board) (turn : ℕ → Option OpId) (world : World) : Type 0 where
  -- the operation of each held slot waits at the initiator that latched it
  pub waits : (lane : BridgeLane) → AllByRecursion (λ (slot : Slot). Waits board turn world (start_of board lane) slot.by slot.op) (world lane).held
  -- no initiator has two slots of a lane for one request
  pub one_own : (lane : BridgeLane) (by : By) (o : OpId) → total (own_count board (start_of board lane) by o) (world lane).held ≤ 1

-- a completion is taken, of the own slot, that was latched for this operation and whose completion was made for it
pub record TakesItsOwn (board : Board) (h : List Event) (on : ℕ) (by : By) (o : OpId) (outcome : Outcome) (lane : BridgeLane) : Type 0 where
  pub slot : Slot
  pub is_own_slot : find (is_own board on by o) (world_of board h lane).held ≡ Some slot
  pub is_for : slot.op ≡ o
  pub stands : find (is_done_for slot.number) (world_of board h (lane_back lane)).standing ≡ Some (Done o slot.number outcome)
