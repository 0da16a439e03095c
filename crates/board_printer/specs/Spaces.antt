-- The words for address spaces, commands and directions.
use Rattle.std.specs.Prelude.{ℕ, Bool, true, false, List, codes, if◌then◌else◌}
use Rattle.pci_command.specs.declared.command.Space.{Space}
use Rattle.pci_command.specs.declared.command.Space.TheVariants.{Mem, Io, Cfg}
use Rattle.pci_command.specs.declared.command.Command.{Command}
use Rattle.pci_command.specs.declared.command.Command.TheVariants.{IoRead, IoWrite, MemRead, MemWrite, CfgRead, CfgWrite, MemReadMultiple, MemReadLine, MemWriteInvalidate}

-- of a range or an opening word (none lies in configuration space)
abbrev pub space_word : Space → List ℕ
space_word Mem = codes "mem"
space_word Io = codes "io"
space_word Cfg = codes "cfg"

-- of a poll for a value, or for any that differs (none reads configuration space)
abbrev pub poll_word : Space → Bool → List ℕ
poll_word Mem false = codes "poll"
poll_word Mem true = codes "pollnot"
poll_word Io false = codes "iopoll"
poll_word Io true = codes "iopollnot"
poll_word Cfg false = codes "cfgpoll"
poll_word Cfg true = codes "cfgpollnot"

-- of an operation, by its command
abbrev pub command_word : Command → List ℕ
command_word IoRead = codes "ior"
command_word IoWrite = codes "iow"
command_word MemRead = codes "mr"
command_word MemWrite = codes "mw"
command_word CfgRead = codes "cfr"
command_word CfgWrite = codes "cfw"
command_word MemReadMultiple = codes "mrm"
command_word MemReadLine = codes "mrl"
command_word MemWriteInvalidate = codes "mwi"

-- of a lane
abbrev pub direction_word : Bool → List ℕ
direction_word up = if up then codes "up" else codes "down"
