-- The data phases of delayed requests: PCI Local Bus Specification 2.2, section 3.3.3.3 (from memory; a delayed
-- transaction has one data phase).
use Rattle.std.specs.Prelude.{◌≡◌, ◌≤◌, false, length}
use Rattle.std.specs.List.{AllByRecursion}
use Rattle.pci_command.specs.declared.command.Command.TheVariants.{MemWrite}
use Rattle.pci_command.specs.Same.{same_command}
use Rattle.board_model.specs.declared.op.Op.{Op}
use Rattle.board_model.specs.declared.agents.Master.{Master}
use Rattle.board_model.specs.declared.board.Board.{Board}
use Rattle.board_model.specs.Requests.{command_of, phases_of}

-- an operation that is not posted has at most one data phase
abbrev pub IsPostedOrSingle : Op → Type 0
IsPostedOrSingle op = same_command (command_of op) MemWrite ≡ false → length (phases_of op) ≤ 1

-- so has each operation of the board
abbrev pub DelayedAreSingle : Board → Type 0
DelayedAreSingle board = AllByRecursion (λ (master : Master). AllByRecursion IsPostedOrSingle master.ops) board.masters
