-- What one line of devices adds to a board, or its first fault.
use Rattle.std.specs.Prelude.{◌≡◌, ℕ, Bool, true, false, ◌+◌, ◌%◌, ◌^◌, List, [], ◌∷◌, Option, Some, None, Result, Ok, Err, not, ◌==◌, nat_le, if◌then◌else◌}
use Rattle.pci_command.specs.declared.command.Command.TheVariants.{MemRead, MemWrite}
use Rattle.pci_command.specs.declared.command.Space.TheVariants.{Mem}
use Rattle.board_model.specs.Wants.{exactly}
use Rattle.board_model.specs.declared.board.Board.{Board}
use Rattle.board_model.specs.declared.op.Op.{Op}
use Rattle.board_model.specs.declared.op.Op.TheVariants.{Read, Write, Poll}
use Rattle.board_model.specs.Valid.{is_bus}
use Rattle.text_faults.specs.declared.board_line.LineFault.{LineFault}
use Rattle.board_parser.specs.declared.draft.draft.Draft.{Draft}
use Rattle.board_parser.specs.draft.Drafts.{board_of}
use Rattle.board_parser.specs.draft.Targets.{is_name_used, bus_of_target}
use Rattle.board_parser.specs.draft.Masters.{add_master, does}
use Rattle.text_faults.specs.declared.device.DeviceFault.{DeviceFault}
use Rattle.text_faults.specs.declared.device.DeviceFault.TheVariants.{Misshapen, Misplaced, NameUsed, NotThere, OverLimit}
use Rattle.text_faults.specs.declared.or_no_memory.OrNoMemory.{OrNoMemory}
use Rattle.text_faults.specs.declared.or_no_memory.OrNoMemory.TheVariants.{Fault, NoMemory}
use Rattle.dma_agents.specs.declared.line.Flag.{Flag}
use Rattle.dma_agents.specs.declared.line.DeviceLine.{DeviceLine}
use Rattle.dma_agents.specs.declared.line.DeviceLine.TheVariants.{Device, Handler, Puts, Gets, Sends, Looks, Waits, Writes}
use Rattle.dma_agents.specs.declared.line.DeviceOwner.{DeviceOwner}
use Rattle.dma_agents.specs.declared.line.DeviceOwner.TheVariants.{Nobody, Device as OfDevice, Handler as OfHandler}
use Rattle.dma_agents.specs.Put.{cut}

-- a line of operations stands behind its device or handler
abbrev pub stands : DeviceOwner → DeviceLine → Bool
stands owner (Device name target bell) = true
stands owner (Handler name bus wait) = true
stands Nobody (Puts put) = false
stands OfDevice (Puts put) = true
stands OfHandler (Puts put) = false
stands Nobody (Gets address) = false
stands OfDevice (Gets address) = true
stands OfHandler (Gets address) = false
stands Nobody (Sends address message) = false
stands OfDevice (Sends address message) = true
stands OfHandler (Sends address message) = false
stands Nobody (Looks address) = false
stands OfDevice (Looks address) = false
stands OfHandler (Looks address) = true
stands Nobody (Waits flag) = false
stands OfDevice (Waits flag) = true
stands OfHandler (Waits flag) = true
stands Nobody (Writes address value) = false
stands OfDevice (Writes address value) = true
stands OfHandler (Writes address value) = true

-- an address of a dword is a multiple of 4, and a put does not pass the last address of 32 bits
abbrev pub is_placed : DeviceLine → Bool
is_placed (Device name target bell) = bell.address % 4 == 0
is_placed (Handler name bus wait) = wait.address % 4 == 0
is_placed (Puts put) = nat_le (put.address + put.length) (2 ^ 32)
is_placed (Gets address) = address % 4 == 0
is_placed (Sends address message) = address % 4 == 0
is_placed (Looks address) = address % 4 == 0
is_placed (Waits flag) = flag.address % 4 == 0
is_placed (Writes address value) = address % 4 == 0

-- the operations: a poll of all bits for the flag, a read of a dword, a write of a whole dword
abbrev pub poll_of : Flag → Op
poll_of flag = Poll Mem flag.address (exactly flag.value) flag.tries

-- a read of the dword at the address
abbrev pub read_of : ℕ → Op
read_of address = Read MemRead address

-- a write of the whole dword at the address
abbrev pub write_of : ℕ → ℕ → Op
write_of address value = Write MemWrite address (record { value = value; enables = 15 } ∷ [])

-- what the line stands for passes a limit of the board, the only fault that is left for it
abbrev pub limited : Result Draft LineFault → Result Draft DeviceFault
limited (Ok draft) = Ok draft
limited (Err fault) = Err OverLimit

-- the next step, unless this one ended with a fault
abbrev pub then_adds : Result Draft DeviceFault → (Draft → Result Draft DeviceFault) → Result Draft DeviceFault
then_adds (Ok draft) later = later draft
then_adds (Err fault) later = Err fault

-- one more operation of the master that began last, and more of them
abbrev pub add_one : Draft → Op → Result Draft DeviceFault
add_one draft op = limited (does draft op false)

-- operations one after another, up to the first that passes a limit
abbrev pub add_ops : Draft → List Op → Result Draft DeviceFault
add_ops draft [] = Ok draft
add_ops draft (op ∷ ops) = then_adds (add_one draft op) (λ next. add_ops next ops)

-- a master on this bus, where it is there, whose first operation waits for its flag
abbrev pub begins_on : Draft → List ℕ → Option ℕ → Op → Result Draft DeviceFault
begins_on draft name None poll = Err NotThere
begins_on draft name (Some bus) poll =
    then_adds (limited (add_master draft.wide (board_of draft) name bus)) (λ next. add_one next poll)

-- its name is one, and is not used already
abbrev pub begins : Draft → Option (List ℕ) → Option ℕ → Op → Result Draft DeviceFault
begins draft None bus poll = Err NameUsed
begins draft (Some name) bus poll =
    if is_name_used (board_of draft) name then Err NameUsed else begins_on draft name bus poll

-- a device sits on the bus of its target, a handler on the bus that it names
abbrev pub bus_of : Board → Option (List ℕ) → Option ℕ
bus_of board None = None
bus_of board (Some name) = bus_of_target board name

-- the bus, if the board has it
abbrev pub bus_there : Board → ℕ → Option ℕ
bus_there board bus = if is_bus board bus then Some bus else None

-- what a line stands for
abbrev pub added : Draft → DeviceLine → Result Draft DeviceFault
added draft (Device name target bell) = begins draft name (bus_of (board_of draft) target) (poll_of bell)
added draft (Handler name bus wait) = begins draft name (bus_there (board_of draft) bus) (poll_of wait)
added draft (Puts put) = add_ops draft (cut put)
added draft (Gets address) = add_one draft (read_of address)
added draft (Sends address message) = add_one draft (write_of address message)
added draft (Looks address) = add_one draft (read_of address)
added draft (Waits flag) = add_one draft (poll_of flag)
added draft (Writes address value) = add_one draft (write_of address value)

-- the board behind a line, or the first fault of the line
abbrev pub line_added : DeviceOwner → Draft → DeviceLine → Result Draft DeviceFault
line_added owner draft line =
    if not (stands owner line) then Err Misshapen
    else if not (is_placed line) then Err Misplaced
    else added draft line

-- an answer is what is to be answered, unless there was no memory
abbrev pub Adds : {A : Type 0} → Result A (OrNoMemory DeviceFault) → Result A DeviceFault → Type 0
Adds (Ok value) expected = expected ≡ Ok value
Adds (Err (Fault fault)) expected = expected ≡ Err fault
Adds (Err NoMemory) expected = Unit {0}
