-- The operations of a board, and the request of each as driven on a bus: PCI Local Bus
-- Specification 2.2, sections 3.1.1, 3.2.2 and 3.2.2.3 (section numbers from memory).
use Rattle.std.specs.Prelude.{ℕ, Bool, false, ◌+◌, ◌*◌, ◌^◌, List, [], ◌∷◌, Option, Some, None, ◌==◌, nat_lt, if◌then◌else◌, slice_get}
use Rattle.std.specs.Option.{option_map, option_and_then}
use Rattle.pci_command.specs.declared.command.Command.{Command}
use Rattle.pci_command.specs.declared.command.Command.TheVariants.{IoRead, MemRead, MemWrite, CfgRead as ConfigurationRead, CfgWrite as ConfigurationWrite}
use Rattle.pci_command.specs.declared.command.Space.{Space}
use Rattle.pci_command.specs.declared.command.Space.TheVariants.{Mem, Io, Cfg}
use Rattle.pci_command.specs.declared.phases.Phase.{Phase}
use Rattle.pci_command.specs.declared.request.Request.{Request}
use Rattle.pci_command.specs.declared.op_id.OpId.{OpId}
use Rattle.pci_command.specs.Command.{plain_of, is_read}
use Rattle.pci_command.specs.Same.{same_command, same_request}
use Rattle.board_model.specs.declared.op.Op.{Op}
use Rattle.board_model.specs.declared.op.Op.TheVariants.{Read, Write, CfgRead, CfgWrite, Poll}
use Rattle.board_model.specs.declared.board.Board.{Board}

-- how often an operation may be tried: a poll its tries, any other once
abbrev pub tries_of : Op → ℕ
tries_of (Read command address) = 1
tries_of (Write command address phases) = 1
tries_of (CfgRead bus device register) = 1
tries_of (CfgWrite bus device register phase) = 1
tries_of (Poll space address want tries) = tries

-- what a name of an operation names, where its master, its index and its try are there
abbrev pub op_of : Board → OpId → Option Op
op_of board o =
    option_and_then (λ op. if nat_lt o.attempt (tries_of op) then Some op else None)
    (option_and_then (λ master. slice_get master.ops o.index) (slice_get board.masters o.master))

-- a read has one data phase, with all bytes enabled
abbrev pub read_phases : List Phase
read_phases = record { value = 0; enables = 15 } ∷ []

-- what reads in a space
abbrev pub read_in : Space → Command
read_in Mem = MemRead
read_in Io = IoRead
read_in Cfg = ConfigurationRead

-- the address of a register on a bus: of type 0 on the bus that is named, of type 1 on any other
abbrev pub configuration_address : ℕ → ℕ → ℕ → ℕ → ℕ
configuration_address on bus device register =
    if on == bus
    then 2 ^ 11 * device + 4 * register
    else 2 ^ 16 * bus + 2 ^ 11 * device + 4 * register + 1

-- the command of an operation on every bus
abbrev pub command_of : Op → Command
command_of (Read command address) = plain_of command
command_of (Write command address phases) = plain_of command
command_of (CfgRead bus device register) = ConfigurationRead
command_of (CfgWrite bus device register phase) = ConfigurationWrite
command_of (Poll space address want tries) = read_in space

-- its address as driven on bus `on`
abbrev pub address_on : Op → ℕ → ℕ
address_on (Read command address) on = address
address_on (Write command address phases) on = address
address_on (CfgRead bus device register) on = configuration_address on bus device register
address_on (CfgWrite bus device register phase) on = configuration_address on bus device register
address_on (Poll space address want tries) on = address

-- its data phases
abbrev pub phases_of : Op → List Phase
phases_of (Read command address) = read_phases
phases_of (Write command address phases) = phases
phases_of (CfgRead bus device register) = read_phases
phases_of (CfgWrite bus device register phase) = phase ∷ []
phases_of (Poll space address want tries) = read_phases

-- the request of an operation as driven on bus `on`
abbrev pub request_on : Op → ℕ → Request
request_on op on = record { command = command_of op; address = address_on op on; phases = phases_of op }

-- the same of an operation by its name, where it is there
abbrev pub request_of : Board → OpId → ℕ → Option Request
request_of board o on = option_map (λ op. request_on op on) (op_of board o)

-- a write in memory is posted; every other request is delayed
abbrev pub is_posted : Request → Bool
is_posted request = same_command request.command MemWrite

-- whether an operation that was found reads
abbrev pub reads_in : Option Op → Bool
reads_in None = false
reads_in (Some op) = is_read (command_of op)

-- whether an operation reads
abbrev pub reads : Board → OpId → Bool
reads board o = reads_in (op_of board o)

-- whether two requests are there and the same
abbrev pub both_same : Option Request → Option Request → Bool
both_same None other = false
both_same (Some request) None = false
both_same (Some request) (Some other) = same_request request other

-- whether two operations have the same request on the bus
abbrev pub same_requests : Board → ℕ → OpId → OpId → Bool
same_requests board on o p = both_same (request_of board o on) (request_of board p on)
