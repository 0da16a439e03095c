-- How far a delayed request has come: PCI-to-PCI Bridge Architecture Specification 1.1, chapter 5 (from memory; delayed
-- transactions).
use Rattle.std.specs.Prelude.{◌≡◌, ℕ, true, false, List, [], ◌∷◌, Option, Some, None, slice_get, if◌then◌else◌}
use Rattle.std.specs.List.{find, list_any, AllByRecursion}
use Rattle.list_facts.specs.Lists.{before, total}
use Rattle.pci_command.specs.declared.op_id.OpId.{OpId}
use Rattle.pci_command.specs.declared.command.Command.TheVariants.{MemWrite}
use Rattle.pci_command.specs.Same.{same_command}
use Rattle.board_model.specs.declared.agents.Master.{Master as MasterAgent}
use Rattle.board_model.specs.declared.bridge.Lane.{Lane as BridgeLane}
use Rattle.board_model.specs.declared.op.Op.{Op}
use Rattle.board_model.specs.declared.board.Board.{Board}
use Rattle.board_model.specs.Requests.{command_of, op_of}
use Rattle.board_model.specs.Ways.{way}
use Rattle.history_model.specs.declared.event.By.{By}
use Rattle.history_model.specs.declared.event.By.TheVariants.{Master, Lane as ByLane}
use Rattle.history_model.specs.declared.event.Event.{Event}
use Rattle.history_model.specs.declared.item.Carried.TheVariants.{Ask}
use Rattle.history_model.specs.declared.item.Slot.{Slot}
use Rattle.history_model.specs.World.{World, same_lane, world_of}
use Rattle.history_model.specs.Program.{turn_of}
use Rattle.history_model.specs.Local.{is_ask_of}
use Rattle.history_model.specs.Left.{is_slot_of, lane_or}
use Rattle.law_lanes.specs.Slots.{IsHeldFor}

-- the last of some lanes
abbrev pub last_of : List BridgeLane → Option BridgeLane
last_of [] = None
last_of (lane ∷ lanes) = Some (lane_or (last_of lanes) lane)

-- who presents an operation behind the last lane that it passed: its master where it passed none
abbrev pub presenter : Option BridgeLane → By
presenter None = Master
presenter (Some lane) = ByLane lane

-- the operation passed the lane: a slot is held for it there, and its request stands with that slot's number
pub record Passed (world : World) (o : OpId) (lane : BridgeLane) : Type 0 where
  pub number : ℕ
  pub held : IsHeldFor (world lane).held number o
  pub stands : find (is_ask_of number) (world lane).standing ≡ Some (Ask o number)

-- counts the slots for an operation
abbrev pub slots_of : OpId → Slot → ℕ
slots_of o slot = if is_slot_of o slot then 1 else 0

-- a slot that is held on the lane, and how its operation got there
pub record Reaches (board : Board) (h : List Event) (lane : BridgeLane) (slot : Slot) : Type 0 where
  -- the operation is its master's turn, and no posted write
  pub op : Op
  pub is_op : op_of board slot.op ≡ Some op
  pub delayed : same_command (command_of op) MemWrite ≡ false
  pub master : MasterAgent
  pub is_master : slice_get board.masters slot.op.master ≡ Some master
  pub is_turn : turn_of board h slot.op.master ≡ Some slot.op
  -- the lane is one of its way from the master's bus
  pub on_way : list_any (same_lane lane) (way board op master.bus) ≡ true
  -- it passed every lane of the way before this one, and was latched by the last of these, or by its master
  pub passed : AllByRecursion (Passed (world_of board h) slot.op) (before (same_lane lane) (way board op master.bus))
  pub latched_by : slot.by ≡ presenter (last_of (before (same_lane lane) (way board op master.bus)))
  -- no other slot is held for it on this lane
  pub only : total (slots_of slot.op) (world_of board h lane).held ≡ 1
