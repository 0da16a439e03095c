-- What the words of a line see to, before its statement is added to a draft.
use Rattle.std.specs.Prelude.{ℕ, Bool, true, false, ◌^◌, List, length, Option, Some, None, ◌&&◌, ◌==◌, nat_lt, nat_le}
use Rattle.std.specs.List.{list_all}
use Rattle.pci_command.specs.declared.command.Space.{Space}
use Rattle.pci_command.specs.declared.command.Space.TheVariants.{Mem, Io, Cfg}
use Rattle.pci_command.specs.declared.phases.Phase.{Phase}
use Rattle.board_model.specs.Limits.{most_posted, most_delayed, most_dwords, most_tries}
use Rattle.board_model.specs.declared.bridge.Window.{Window}
use Rattle.board_model.specs.declared.bridge.Bridge.{Bridge}
use Rattle.board_model.specs.declared.op.Op.{Op}
use Rattle.board_model.specs.declared.op.Op.TheVariants.{Read, Write, CfgRead, CfgWrite, Poll}
use Rattle.board_model.specs.WellFormed.{is_within, is_well_formed_phase, is_well_formed_plan, read_space, write_space}
use Rattle.board_statements.specs.declared.statement.Statement.{Statement}
use Rattle.board_statements.specs.declared.statement.Statement.TheVariants.{NewBridge, NewHeader, NewTarget, Identifies, Stalls, Bursts, Claims, Aborts, Opens, NewMaster, Does, Discards, Drops}

-- the window ends below the end of its space
abbrev pub ends_within : ℕ → Option Window → Bool
ends_within end None = true
ends_within end (Some window) = nat_lt window.limit end

-- a bridge as its words give it: its bus, device number, depths and windows
abbrev pub is_formed_bridge : Bridge → Bool
is_formed_bridge bridge =
    nat_le 1 bridge.bus && nat_le bridge.device 31 && is_within 1 most_posted bridge.posted && is_within 1 most_delayed bridge.delayed
    && ends_within (2 ^ 32) bridge.mem && ends_within (2 ^ 64) bridge.pref && ends_within (2 ^ 32) bridge.io

-- a number below 256
abbrev pub is_byte : ℕ → Bool
is_byte byte = nat_lt byte 256

-- targets have memory and I/O
abbrev pub is_target_space : Space → Bool
is_target_space Mem = true
is_target_space Io = true
is_target_space Cfg = false

-- an address of memory, or one of I/O below 2^32
abbrev pub is_address : Space → ℕ → Bool
is_address Mem address = true
is_address Io address = nat_lt address (2 ^ 32)
is_address Cfg address = false

-- a range of I/O has less than 2^32 bytes, one of memory less than 2^64
abbrev pub is_size : Space → ℕ → Bool
is_size Mem size = nat_lt size (2 ^ 64)
is_size Io size = nat_lt size (2 ^ 32)
is_size Cfg size = false

-- an address of the space that the command reads; a command that reads none is not formed
abbrev pub is_formed_read : ℕ → Option Space → Bool
is_formed_read address None = false
is_formed_read address (Some space) = is_address space address

-- the dwords of a burst in memory, or one of I/O
abbrev pub is_phase_count : Space → ℕ → Bool
is_phase_count Mem phases = is_within 1 most_dwords phases
is_phase_count Io phases = phases == 1
is_phase_count Cfg phases = false

-- the same of a write, and so many dwords as its space takes at once
abbrev pub is_formed_write : ℕ → List Phase → Option Space → Bool
is_formed_write address phases None = false
is_formed_write address phases (Some space) =
    is_address space address && is_phase_count space (length phases) && list_all is_well_formed_phase phases

-- an operation as its words give it
abbrev pub is_formed_op : Op → Bool
is_formed_op (Read command address) = is_formed_read address (read_space command)
is_formed_op (Write command address phases) = is_formed_write address phases (write_space command)
is_formed_op (CfgRead bus device register) = nat_le device 31 && nat_le register 63
is_formed_op (CfgWrite bus device register phase) = nat_le device 31 && nat_le register 63 && is_well_formed_phase phase
is_formed_op (Poll space address want tries) = is_address space address && is_within 1 most_tries tries

-- a statement as its words give it
abbrev pub is_formed : Statement → Bool
is_formed (NewBridge bridge) = is_formed_bridge bridge
is_formed (NewHeader device bytes posted delayed) =
    nat_le device 31 && is_within 1 most_posted posted && is_within 1 most_delayed delayed && list_all is_byte bytes
is_formed (NewTarget name bus device) = nat_le device 31
is_formed (Identifies vendor model) = true
is_formed (Stalls tokens) = nat_le tokens 1000000
is_formed (Bursts phases) = is_within 1 most_dwords phases
is_formed (Claims range) = is_size range.space range.size
is_formed (Aborts range) = is_size range.space range.size
is_formed (Opens opening) = is_address opening.space opening.address
is_formed (NewMaster name bus) = true
is_formed (Does op too_many) = is_formed_op op
is_formed (Discards planned) = is_well_formed_plan planned
is_formed (Drops planned) = is_well_formed_plan planned
