-- What the items of a lane carry: PCI Local Bus Specification 2.2, section 3.3.3.3 (from memory; a write in memory is
-- posted, every other transaction is delayed).
use Rattle.std.specs.Prelude.{◌≡◌, Bool, true, false, Some}
use Rattle.pci_command.specs.declared.command.Command.TheVariants.{MemWrite}
use Rattle.pci_command.specs.declared.op_id.OpId.{OpId}
use Rattle.pci_command.specs.Same.{same_command}
use Rattle.board_model.specs.declared.op.Op.{Op}
use Rattle.board_model.specs.declared.board.Board.{Board}
use Rattle.board_model.specs.Requests.{op_of, command_of}
use Rattle.history_model.specs.declared.item.Carried.{Carried}
use Rattle.history_model.specs.declared.item.Carried.TheVariants.{Post, Ask, Done, Room, Gone}

-- the operation is there, and is a write in memory or none
pub record NamesOp (board : Board) (posted : Bool) (o : OpId) : Type 0 where
  pub op : Op
  pub is_op : op_of board o ≡ Some op
  pub is_posted : same_command (command_of op) MemWrite ≡ posted

-- a posted item names a write in memory, a delayed request and a completion name another operation
abbrev pub RightKind : Board → Carried → Type 0
RightKind board (Post op) = NamesOp board true op
RightKind board (Ask op slot) = NamesOp board false op
RightKind board (Done op slot outcome) = NamesOp board false op
RightKind board Room = Unit {0}
RightKind board (Gone slot) = Unit {0}
