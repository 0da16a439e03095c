-- Who claims a request on a bus: PCI-to-PCI Bridge Architecture Specification 1.1, chapter 4 (address
-- decoding) and section 3.1 (configuration transactions); the chapter and section numbers are from memory.
use Rattle.std.specs.Prelude.{ℕ, Bool, true, false, ◌+◌, ◌/◌, ◌%◌, ◌^◌, Option, Some, None, ◌&&◌, ◌||◌, ◌==◌, nat_lt, nat_le, if◌then◌else◌}
use Rattle.std.specs.List.{find, list_any, position_from}
use Rattle.pci_command.specs.declared.command.Space.{Space}
use Rattle.pci_command.specs.declared.command.Space.TheVariants.{Mem, Io, Cfg}
use Rattle.pci_command.specs.declared.request.Request.{Request}
use Rattle.pci_command.specs.Command.{space_of}
use Rattle.pci_command.specs.Same.{same_space}
use Rattle.board_model.specs.declared.agents.Range.{Range}
use Rattle.board_model.specs.declared.bridge.Window.{Window}
use Rattle.board_model.specs.declared.bridge.Bridge.{Bridge}
use Rattle.board_model.specs.declared.bridge.Place.{Place}
use Rattle.board_model.specs.declared.bridge.Place.TheVariants.{Target, Header, Lane, Nobody}
use Rattle.board_model.specs.declared.board.Board.{Board}

-- the address lies in the range
abbrev pub range_holds : Space → ℕ → Range → Bool
range_holds space address range =
    same_space range.space space && nat_le range.base address && nat_lt address (range.base + range.size)

-- the address lies in the window, if it is open
abbrev pub window_holds : ℕ → Option Window → Bool
window_holds address None = false
window_holds address (Some window) = nat_le window.base address && nat_le address window.limit

-- the address lies in a window of the bridge for its space
abbrev pub bridge_holds : Space → ℕ → Bridge → Bool
bridge_holds Mem address bridge = window_holds address bridge.mem || window_holds address bridge.pref
bridge_holds Io address bridge = window_holds address bridge.io
bridge_holds Cfg address bridge = false

-- positive decoding by a bridge whose primary bus this is
abbrev pub decodes_down : ℕ → Space → ℕ → Bridge → Bool
decodes_down bus space address bridge = bridge.parent == bus && bridge_holds space address bridge

-- inverse decoding by the bridge whose secondary bus this is: it claims what lies in no window of its own
abbrev pub claim_upwards : ℕ → Space → ℕ → Option Bridge → Place
claim_upwards bus space address None = Nobody
claim_upwards bus space address (Some own) =
    if bridge_holds space address own then Nobody else Lane (record { bus = bus; up = true })

-- a bridge found downwards, or else the bus's own bridge upwards
abbrev pub claim_by_bridge : Board → ℕ → Space → ℕ → Option Bridge → Place
claim_by_bridge board bus space address (Some child) = Lane (record { bus = child.bus; up = false })
claim_by_bridge board bus space address None =
    claim_upwards bus space address (find (λ bridge. bridge.bus == bus) board.bridges)

-- a target found by one of its ranges, or else a bridge
abbrev pub claim_by_address : Board → ℕ → Space → ℕ → Option ℕ → Place
claim_by_address board bus space address (Some target) = Target target
claim_by_address board bus space address None =
    claim_by_bridge board bus space address (find (decodes_down bus space address) board.bridges)

-- a header found by its device number, or else nobody
abbrev pub claim_by_header : Option Bridge → Place
claim_by_header (Some bridge) = Header bridge.bus
claim_by_header None = Nobody

-- type 0: a target found by its device number, or else the header of a bridge with that number
abbrev pub claim_by_device : Board → ℕ → ℕ → Option ℕ → Place
claim_by_device board bus device (Some target) = Target target
claim_by_device board bus device None =
    claim_by_header (find (λ bridge. bridge.parent == bus && bridge.device == device) board.bridges)

-- type 1: the bridge behind which the named bus lies, or else nobody; never upwards
abbrev pub claim_by_bus : Option Bridge → Place
claim_by_bus (Some bridge) = Lane (record { bus = bridge.bus; up = false })
claim_by_bus None = Nobody

-- a configuration address of type 0 has its two low bits clear
abbrev pub is_type_0 : ℕ → Bool
is_type_0 address = address % 4 == 0

-- the device number of a configuration address (bits 15 to 11)
abbrev pub device_in : ℕ → ℕ
device_in address = address / 2 ^ 11 % 2 ^ 5

-- the bus number of a configuration address of type 1 (bits 23 to 16)
abbrev pub bus_in : ℕ → ℕ
bus_in address = address / 2 ^ 16 % 2 ^ 8

-- who claims a configuration address on the bus: of type 0 by its device number, of type 1 by the bus that it names
abbrev pub claim_in_configuration : Board → ℕ → ℕ → Place
claim_in_configuration board bus address =
    if is_type_0 address
    then claim_by_device board bus (device_in address)
    (position_from (λ target. target.bus == bus && target.device == device_in address) 0 board.targets)
    else claim_by_bus
    (find (λ bridge. bridge.parent == bus && nat_le bridge.bus (bus_in address) && nat_le (bus_in address) bridge.last) board.bridges)

-- who claims an address of a space on the bus
abbrev pub claim_in_space : Board → ℕ → Space → ℕ → Place
claim_in_space board bus Mem address =
    claim_by_address board bus Mem address
    (position_from (λ target. target.bus == bus && list_any (range_holds Mem address) target.ranges) 0 board.targets)
claim_in_space board bus Io address =
    claim_by_address board bus Io address
    (position_from (λ target. target.bus == bus && list_any (range_holds Io address) target.ranges) 0 board.targets)
claim_in_space board bus Cfg address = claim_in_configuration board bus address

-- who claims the request on the bus
abbrev pub claim : Board → ℕ → Request → Place
claim board bus request = claim_in_space board bus (space_of request.command) request.address
