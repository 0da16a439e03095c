-- Bus commands: PCI Local Bus Specification 2.2, section 3.1.1 (from memory).
use Rattle.std.specs.Prelude.{ℕ, Bool, true, false}
use Rattle.pci_command.specs.declared.command.Command.{Command}
use Rattle.pci_command.specs.declared.command.Command.TheVariants.{IoRead, IoWrite, MemRead, MemWrite, CfgRead, CfgWrite, MemReadMultiple, MemReadLine, MemWriteInvalidate}
use Rattle.pci_command.specs.declared.command.Space.{Space}
use Rattle.pci_command.specs.declared.command.Space.TheVariants.{Mem, Io, Cfg}

-- what C/BE[3::0]# carry in the address phase
abbrev pub code_of : Command → ℕ
code_of IoRead = 2
code_of IoWrite = 3
code_of MemRead = 6
code_of MemWrite = 7
code_of CfgRead = 10
code_of CfgWrite = 11
code_of MemReadMultiple = 12
code_of MemReadLine = 14
code_of MemWriteInvalidate = 15

-- what it acts as, where nothing is prefetched and no cache listens
abbrev pub plain_of : Command → Command
plain_of IoRead = IoRead
plain_of IoWrite = IoWrite
plain_of MemRead = MemRead
plain_of MemWrite = MemWrite
plain_of CfgRead = CfgRead
plain_of CfgWrite = CfgWrite
plain_of MemReadMultiple = MemRead
plain_of MemReadLine = MemRead
plain_of MemWriteInvalidate = MemWrite

-- the space that it addresses
abbrev pub space_of : Command → Space
space_of IoRead = Io
space_of IoWrite = Io
space_of MemRead = Mem
space_of MemWrite = Mem
space_of CfgRead = Cfg
space_of CfgWrite = Cfg
space_of MemReadMultiple = Mem
space_of MemReadLine = Mem
space_of MemWriteInvalidate = Mem

-- whether it reads
abbrev pub is_read : Command → Bool
is_read IoRead = true
is_read IoWrite = false
is_read MemRead = true
is_read MemWrite = false
is_read CfgRead = true
is_read CfgWrite = false
is_read MemReadMultiple = true
is_read MemReadLine = true
is_read MemWriteInvalidate = false
