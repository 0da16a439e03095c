-- How a bridge decodes addresses: PCI-to-PCI Bridge Architecture Specification 1.1, chapter 4 (from memory; positive decoding
-- downwards, inverse decoding upwards) and section 3.1 (from memory; configuration transactions).
use Rattle.std.specs.Prelude.{ℕ, Bool, true, false, ◌*◌, ◌/◌, ◌%◌, ◌^◌, Option, Some, None, not, ◌&&◌, ◌==◌, nat_lt, nat_le, if◌then◌else◌}
use Rattle.pci_command.specs.declared.command.Space.{Space}
use Rattle.pci_command.specs.declared.command.Space.TheVariants.{Mem, Io, Cfg}
use Rattle.board_model.specs.declared.bridge.Bridge.{Bridge}
use Rattle.board_model.specs.Claims.{bridge_holds, bus_in}
use Rattle.plain_decode.specs.declared.route.CfgRoute.{CfgRoute}
use Rattle.plain_decode.specs.declared.route.CfgRoute.TheVariants.{ToType0, PassDown, NotHere}

-- inverse decoding on the secondary bus: an address of memory or I/O that lies in no window of the bridge
abbrev pub holds_elsewhere : Space → ℕ → Bridge → Bool
holds_elsewhere Mem address bridge = not (bridge_holds Mem address bridge)
holds_elsewhere Io address bridge = not (bridge_holds Io address bridge)
holds_elsewhere Cfg address bridge = false

-- the address of type 0 for the device, function and register of a configuration address: its bits 15 to 2
abbrev pub type_0_of : ℕ → ℕ
type_0_of address = 2 ^ 2 * (address / 2 ^ 2 % 2 ^ 14)

-- where a configuration address of type 1 goes that a bridge meets on its primary bus: converted, if it names the
-- secondary bus; unchanged, if it names a bus further down; not through this bridge otherwise
abbrev pub route_of_address : ℕ → Bridge → CfgRoute
route_of_address address bridge =
    if bus_in address == bridge.bus then ToType0 (type_0_of address)
    else if nat_lt bridge.bus (bus_in address) && nat_le (bus_in address) bridge.last then PassDown address
    else NotHere

-- the bridge takes it
abbrev pub is_taken : CfgRoute → Bool
is_taken (ToType0 address) = true
is_taken (PassDown address) = true
is_taken NotHere = false

-- what the bridge then drives on its secondary bus
abbrev pub driven_by : CfgRoute → Option ℕ
driven_by (ToType0 address) = Some address
driven_by (PassDown address) = Some address
driven_by NotHere = None
