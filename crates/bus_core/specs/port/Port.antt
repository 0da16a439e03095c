-- A bridge on one of its two buses: the half of it that is there, with the lines of the board that mark what arrives
-- there. PCI-to-PCI Bridge Architecture Specification 1.1, chapter 5 (from memory).
use Rattle.std.specs.Prelude.{◌≡◌, ℕ, Some}
use Rattle.pci_command.specs.declared.op_id.OpId.{OpId}
use Rattle.board_model.specs.declared.bridge.Bridge.{Bridge}
use Rattle.board_model.specs.declared.bridge.Lane.{Lane as BridgeLane}
use Rattle.board_model.specs.declared.board.Board.{Board}
use Rattle.board_model.specs.Ways.{end_of, lane_back}
use Rattle.history_model.specs.declared.event.By.{By}
use Rattle.history_model.specs.World.{World, both}
use Rattle.history_model.specs.Answers.{bridge_to}
use Rattle.bus_face.specs.State.{FaceState}
use Rattle.bus_face.specs.Stands.{Stands}
use Rattle.bus_agents.specs.marks.Marks.{MarksView, MarksStand}

-- what a bus keeps of a bridge
pub record PortView : Type 0 where
  -- the lane of the bridge that ends on the bus; its lane back begins there
  pub lane : BridgeLane
  -- the half bridge
  pub face : FaceState
  -- the lines that mark what arrives on the lane, and how many delayed requests and completions arrived
  pub marks : MarksView

-- the port stands for what is on the two lanes of its bridge; `tags` tells the initiators of the bus apart
pub record PortStands (board : Board) (bus : ℕ) (tags : By → OpId → ℕ) (port : PortView) (world : World) : Type 0 where
  pub bridge : Bridge
  pub is_bridge : bridge_to board port.lane.bus ≡ Some bridge
  pub ends : end_of board port.lane ≡ bus
  pub face : Stands board bridge bus tags port.face (both world (lane_back port.lane))
  pub marks : MarksStand board port.lane (world port.lane).asks (world port.lane).dones port.marks
