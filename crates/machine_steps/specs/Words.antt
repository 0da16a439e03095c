-- Which dword of a target a read reads: PCI Local Bus Specification 2.2, section 3.2.2 (from memory).
use Rattle.std.specs.Prelude.{ℕ}
use Rattle.pci_command.specs.declared.request.Request.{Request}
use Rattle.pci_command.specs.Command.{space_of}
use Rattle.board_model.specs.declared.word.Word.{Word}
use Rattle.board_model.specs.Ways.{address_in}

-- the dword of the target at the address of the request
abbrev pub word_at : ℕ → Request → Word
word_at target request = record { target = target; space = space_of request.command; address = address_in (space_of request.command) request.address }
