-- Where delayed requests can be: PCI-to-PCI Bridge Architecture Specification 1.1, chapter 4 (from memory; address
-- decoding).
use Rattle.std.specs.Prelude.{◌≡◌, true, false, Some, slice_get}
use Rattle.std.specs.List.{list_any}
use Rattle.pci_command.specs.declared.command.Command.TheVariants.{MemWrite}
use Rattle.pci_command.specs.declared.op_id.OpId.{OpId}
use Rattle.pci_command.specs.Same.{same_command}
use Rattle.board_model.specs.declared.agents.Master.{Master}
use Rattle.board_model.specs.declared.bridge.Lane.{Lane as BridgeLane}
use Rattle.board_model.specs.declared.op.Op.{Op}
use Rattle.board_model.specs.declared.board.Board.{Board}
use Rattle.board_model.specs.Requests.{command_of, op_of}
use Rattle.board_model.specs.Ways.{way}
use Rattle.history_model.specs.World.{same_lane}

-- the operation of a master, no write in memory, and the lane is one of its way from the master's bus
pub record AskedWay (board : Board) (lane : BridgeLane) (o : OpId) : Type 0 where
  pub op : Op
  pub is_op : op_of board o ≡ Some op
  pub delayed : same_command (command_of op) MemWrite ≡ false
  pub master : Master
  pub is_master : slice_get board.masters o.master ≡ Some master
  pub on_way : list_any (same_lane lane) (way board op master.bus) ≡ true
