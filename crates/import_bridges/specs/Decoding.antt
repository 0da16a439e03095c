-- What a function decodes, by its command register: PCI Local Bus Specification 2.2, section 6.2.2 (from memory).
use Rattle.std.specs.Prelude.{Bool, false}
use Rattle.pci_command.specs.declared.command.Space.{Space}
use Rattle.pci_command.specs.declared.command.Space.TheVariants.{Mem, Io, Cfg}
use Rattle.import_text.specs.declared.function.Function.{Function}
use Rattle.board_model.specs.HeaderBytes.{register_2}
use Rattle.board_headers.specs.Windows.{has_bit}

-- memory space and I/O space are decoded: bits 1 and 0 of the command register
abbrev pub decodes : Space → Function → Bool
decodes Mem function = has_bit 1 (register_2 function.header 0x04)
decodes Io function = has_bit 0 (register_2 function.header 0x04)
decodes Cfg function = false
