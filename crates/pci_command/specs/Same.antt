-- Tests of equality, which the definitions of a run compute with.
use Rattle.std.specs.Prelude.{Bool, true, false, ◌&&◌, ◌==◌}
use Rattle.std.specs.Cmp.Lexicographic.{pointwise}
use Rattle.pci_command.specs.declared.command.Command.{Command}
use Rattle.pci_command.specs.declared.command.Space.{Space}
use Rattle.pci_command.specs.declared.command.Space.TheVariants.{Mem, Io, Cfg}
use Rattle.pci_command.specs.declared.phases.Phase.{Phase}
use Rattle.pci_command.specs.declared.request.Request.{Request}
use Rattle.pci_command.specs.declared.op_id.OpId.{OpId}
use Rattle.pci_command.specs.Command.{code_of}

-- one address space
abbrev pub same_space : Space → Space → Bool
same_space Mem Mem = true
same_space Mem Io = false
same_space Mem Cfg = false
same_space Io Mem = false
same_space Io Io = true
same_space Io Cfg = false
same_space Cfg Mem = false
same_space Cfg Io = false
same_space Cfg Cfg = true

-- one command: no two share a code
abbrev pub same_command : Command → Command → Bool
same_command a b = code_of a == code_of b

-- one dword with the same bytes enabled
abbrev pub same_phase : Phase → Phase → Bool
same_phase a b = a.value == b.value && a.enables == b.enables

-- one command, address and list of data phases
abbrev pub same_request : Request → Request → Bool
same_request a b = same_command a.command b.command && a.address == b.address && pointwise same_phase a.phases b.phases

-- one master, index and try
abbrev pub same_op : OpId → OpId → Bool
same_op a b = a.master == b.master && a.index == b.index && a.attempt == b.attempt
