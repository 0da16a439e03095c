-- Valid boards: each address has one owner, and every way ends. PCI-to-PCI Bridge Architecture Specification
-- 1.1, chapters 3 and 4 (chapter numbers from memory). Each fault is a test of a well-formed board.
-- V1 to V9 are the names of the faults in what the program writes.
use Rattle.std.specs.Prelude.{◌≡◌, ℕ, Bool, true, false, ◌+◌, ◌-◌, List, [], ◌∷◌, Option, Some, None, not, ◌&&◌, ◌||◌, ◌==◌, nat_lt, nat_le}
use Rattle.std.specs.List.{find, list_all, list_any}
use Rattle.pci_command.specs.declared.command.Space.{Space}
use Rattle.pci_command.specs.declared.command.Space.TheVariants.{Mem, Io, Cfg}
use Rattle.pci_command.specs.Same.{same_space}
use Rattle.board_model.specs.declared.agents.Range.{Range}
use Rattle.board_model.specs.declared.agents.Target.{Target}
use Rattle.board_model.specs.declared.agents.Master.{Master}
use Rattle.board_model.specs.declared.bridge.Window.{Window}
use Rattle.board_model.specs.declared.bridge.Bridge.{Bridge}
use Rattle.board_model.specs.declared.op.Op.{Op}
use Rattle.board_model.specs.declared.op.Op.TheVariants.{Read, Write, CfgRead, CfgWrite, Poll}
use Rattle.board_model.specs.declared.board.Board.{Board}
use Rattle.board_model.specs.declared.board.Planned.{Planned}
use Rattle.board_model.specs.Ways.{bound_of}
use Rattle.board_model.specs.WellFormed.{is_well_formed, has_bus}

-- A test of each two elements of a list, the earlier one first.
abbrev pub some_two : {X : Type 0} → (X → X → Bool) → List X → Bool
some_two test [] = false
some_two test (x ∷ xs) = list_any (test x) xs || some_two test xs

-- Every bus is there.

-- a bridge has this as its secondary bus
abbrev pub has_bridge_to : Board → ℕ → Bool
has_bridge_to board bus = list_any (has_bus bus) board.bridges

-- bus 0 is always there, any other behind its bridge
abbrev pub is_bus : Board → ℕ → Bool
is_bus board bus = bus == 0 || has_bridge_to board bus

-- V1: a bridge's primary bus, an agent's bus, or the bridge of a discard or drop is not there
abbrev pub lacks_a_bus : Board → Bool
lacks_a_bus board =
    list_any (λ (bridge : Bridge). not (is_bus board bridge.parent)) board.bridges
    || list_any (λ (target : Target). not (is_bus board target.bus)) board.targets
    || list_any (λ (master : Master). not (is_bus board master.bus)) board.masters
    || list_any (λ (planned : Planned). not (has_bridge_to board planned.bus)) board.discards
    || list_any (λ (planned : Planned). not (has_bridge_to board planned.bus)) board.drops

-- Bus numbers are those of a tree.

-- primary < secondary <= subordinate
abbrev pub is_numbered : Bridge → Bool
is_numbered bridge = nat_lt bridge.parent bridge.bus && nat_le bridge.bus bridge.last

-- the buses behind the bridge are behind the bridge above it
abbrev pub is_behind : Bridge → Option Bridge → Bool
is_behind bridge None = true
is_behind bridge (Some above) = nat_lt bridge.parent bridge.bus && nat_le bridge.last above.last

-- the same by the bridge above, if there is one
abbrev pub is_nested : Board → Bridge → Bool
is_nested board bridge = is_behind bridge (find (has_bus bridge.parent) board.bridges)

-- the buses behind two bridges of one bus meet
abbrev pub are_beside : Bridge → Bridge → Bool
are_beside a b = a.parent == b.parent && nat_le a.bus b.last && nat_le b.bus a.last

-- V2: a bridge has not primary < secondary <= subordinate, its buses are not behind the bridge above it, or those
-- of two bridges of one bus meet
abbrev pub is_no_tree : Board → Bool
is_no_tree board =
    list_any (λ (bridge : Bridge). not (is_numbered bridge) || not (is_nested board bridge)) board.bridges
    || some_two are_beside board.bridges

-- Windows and ranges have one owner each.

-- two spans of addresses, each from its base to its limit, share one
abbrev pub spans_meet : ℕ → ℕ → ℕ → ℕ → Bool
spans_meet base limit other_base other_limit = nat_le base other_limit && nat_le other_base limit

-- an open window shares an address with the span
abbrev pub window_meets : Option Window → ℕ → ℕ → Bool
window_meets None base limit = false
window_meets (Some window) base limit = spans_meet window.base window.limit base limit

-- two open windows share an address
abbrev pub windows_meet : Option Window → Option Window → Bool
windows_meet None other = false
windows_meet (Some window) other = window_meets other window.base window.limit

-- two bridges on one bus have windows for one space that share an address
abbrev pub bridges_meet : Bridge → Bridge → Bool
bridges_meet a b =
    a.parent == b.parent
    && (windows_meet a.mem b.mem || windows_meet a.mem b.pref || windows_meet a.pref b.mem || windows_meet a.pref b.pref
    || windows_meet a.io b.io)

-- V3: windows for one space of two bridges on one bus share an address
abbrev pub has_windows_that_meet : Board → Bool
has_windows_that_meet board = some_two bridges_meet board.bridges

-- the span lies in the window, which is open
abbrev pub window_covers : ℕ → ℕ → Option Window → Bool
window_covers base limit None = false
window_covers base limit (Some window) = nat_le window.base base && nat_le limit window.limit

-- all of a span of addresses lies in one window of the bridge for its space
abbrev pub bridge_covers : Space → ℕ → ℕ → Bridge → Bool
bridge_covers Mem base limit bridge = window_covers base limit bridge.mem || window_covers base limit bridge.pref
bridge_covers Io base limit bridge = window_covers base limit bridge.io
bridge_covers Cfg base limit bridge = false

-- the same of the bridge above; on bus 0, which has none, nothing is asked
abbrev pub own_covers : Space → ℕ → ℕ → Option Bridge → Bool
own_covers space base limit None = true
own_covers space base limit (Some own) = bridge_covers space base limit own

-- the span lies in one window of the bridge above the bus, if there is one
abbrev pub is_reached : Board → ℕ → Space → ℕ → ℕ → Bool
is_reached board bus space base limit = own_covers space base limit (find (has_bus bus) board.bridges)

-- a window lies in one window of the bridge above the bus; a closed one always
abbrev pub window_is_reached : Board → ℕ → Space → Option Window → Bool
window_is_reached board bus space None = true
window_is_reached board bus space (Some window) = is_reached board bus space window.base window.limit

-- the last address of a range
abbrev pub last_of : Range → ℕ
last_of range = range.base + (range.size - 1)

-- each range of the target lies in one window of the bridge above
abbrev pub ranges_are_reached : Board → Target → Bool
ranges_are_reached board target =
    list_all (λ (range : Range). is_reached board target.bus range.space range.base (last_of range)) target.ranges

-- each window of the bridge lies in one window of the bridge above
abbrev pub windows_are_reached : Board → Bridge → Bool
windows_are_reached board bridge =
    window_is_reached board bridge.parent Mem bridge.mem && window_is_reached board bridge.parent Mem bridge.pref
    && window_is_reached board bridge.parent Io bridge.io

-- V4: a range or a window on a bus other than 0 lies wholly in no one window of the bridge above
abbrev pub is_out_of_reach : Board → Bool
is_out_of_reach board =
    list_any (λ (target : Target). not (ranges_are_reached board target)) board.targets
    || list_any (λ (bridge : Bridge). not (windows_are_reached board bridge)) board.bridges

-- a range shares an address with a window of the bridge for its space
abbrev pub meets_in : Space → Range → Bridge → Bool
meets_in Mem range bridge =
    window_meets bridge.mem range.base (last_of range) || window_meets bridge.pref range.base (last_of range)
meets_in Io range bridge = window_meets bridge.io range.base (last_of range)
meets_in Cfg range bridge = false

-- a range of the target shares one with a window of the bridge, which is below its bus
abbrev pub child_meets : Target → Bridge → Bool
child_meets target bridge =
    bridge.parent == target.bus && list_any (λ (range : Range). meets_in range.space range bridge) target.ranges

-- V5: a range shares an address with a window of a bridge below its bus
abbrev pub has_range_in_window : Board → Bool
has_range_in_window board = list_any (λ (target : Target). list_any (child_meets target) board.bridges) board.targets

-- two ranges of one space share an address
abbrev pub ranges_meet : Range → Range → Bool
ranges_meet a b = same_space a.space b.space && spans_meet a.base (last_of a) b.base (last_of b)

-- two targets on one bus have ranges that share an address
abbrev pub targets_meet : Target → Target → Bool
targets_meet a b = a.bus == b.bus && list_any (λ range. list_any (ranges_meet range) b.ranges) a.ranges

-- V6: two ranges on one bus share an address of one space, also of one target
abbrev pub has_ranges_that_meet : Board → Bool
has_ranges_that_meet board =
    some_two targets_meet board.targets || list_any (λ (target : Target). some_two ranges_meet target.ranges) board.targets

-- Devices have different numbers.

-- two targets on one bus have one device number
abbrev pub targets_share_a_device : Target → Target → Bool
targets_share_a_device a b = a.bus == b.bus && a.device == b.device

-- two bridges below one bus have one device number
abbrev pub bridges_share_a_device : Bridge → Bridge → Bool
bridges_share_a_device a b = a.parent == b.parent && a.device == b.device

-- the bridge has the target's device number on its bus
abbrev pub is_device_of : Target → Bridge → Bool
is_device_of target bridge = bridge.parent == target.bus && bridge.device == target.device

-- V7: two targets, two bridges, or a target and a bridge on one bus have one device number
abbrev pub has_devices_that_meet : Board → Bool
has_devices_that_meet board =
    some_two targets_share_a_device board.targets || some_two bridges_share_a_device board.bridges
    || list_any (λ (target : Target). list_any (is_device_of target) board.bridges) board.targets

-- a configuration write names the bus and the device of a bridge
abbrev pub is_header_write : Board → Op → Bool
is_header_write board (Read command address) = false
is_header_write board (Write command address phases) = false
is_header_write board (CfgRead bus device register) = false
is_header_write board (CfgWrite bus device register phase) =
    list_any (λ (bridge : Bridge). bridge.parent == bus && bridge.device == device) board.bridges
is_header_write board (Poll space address want tries) = false

-- V8: some configuration write of a program names the bus and the device of a bridge
abbrev pub writes_a_header : Board → Bool
writes_a_header board = list_any (λ (master : Master). list_any (is_header_write board) master.ops) board.masters

-- V9: a run may have more than 500,000 events
abbrev pub is_too_long : Board → Bool
is_too_long board = nat_lt 500000 (bound_of board)

-- a board that a run is made of
pub record IsValid (board : Board) : Type 0 where
  pub well_formed : is_well_formed board ≡ true
  -- it has none of the faults V1 to V9, in this order
  pub buses : lacks_a_bus board ≡ false
  pub tree : is_no_tree board ≡ false
  pub windows : has_windows_that_meet board ≡ false
  pub reach : is_out_of_reach board ≡ false
  pub ranges_beside_windows : has_range_in_window board ≡ false
  pub ranges : has_ranges_that_meet board ≡ false
  pub devices : has_devices_that_meet board ≡ false
  pub headers : writes_a_header board ≡ false
  pub bound : is_too_long board ≡ false
