-- Whether a board is that of a machine: what the board has is told by a function of the machine, and what a function tells
-- is on the board, or the board itself shows why it is not. Of no order is anything said.
use Rattle.std.specs.Prelude.{◌≡◌, ℕ, Bool, true, false, zero, suc, ◌+◌, ◌-◌, ◌/◌, ◌%◌, List, [], ◌∷◌, length, Option, Some, None, is_none, not, ◌==◌, ◌&&◌, ◌||◌, nat_lt, nat_le, if◌then◌else◌}
use Rattle.std.specs.List.{find, list_all, list_any, count_by}
use Rattle.std.specs.Str.{bytes_eq}
use Rattle.std.specs.Fmt.{digit_glyph}
use Rattle.list_facts.specs.Lists.{total}
use Rattle.pci_command.specs.declared.command.Space.{Space}
use Rattle.pci_command.specs.declared.command.Space.TheVariants.{Mem, Io, Cfg}
use Rattle.pci_command.specs.Same.{same_space}
use Rattle.board_model.specs.declared.agents.Range.{Range}
use Rattle.board_model.specs.declared.agents.Target.{Target}
use Rattle.board_model.specs.declared.bridge.Window.{Window}
use Rattle.board_model.specs.declared.bridge.Bridge.{Bridge}
use Rattle.board_model.specs.declared.board.Board.{Board}
use Rattle.board_model.specs.HeaderBytes.{register_2}
use Rattle.board_model.specs.Limits.{most_bridges, most_children, most_dwords}
use Rattle.board_model.specs.WellFormed.{has_bus, registers_of, children_on}
use Rattle.board_model.specs.Valid.{is_bus, spans_meet, window_meets, is_reached, last_of}
use Rattle.board_headers.specs.declared.windows.Windows.{Windows}
use Rattle.board_headers.specs.Windows.{windows_of}
use Rattle.import_text.specs.declared.function.Function.{Function}
use Rattle.import_bridges.specs.declared.machine.Root.{Root}
use Rattle.import_bridges.specs.Functions.{is_in, is_bridge}
use Rattle.import_bridges.specs.Decoding.{decodes}
use Rattle.import_targets.specs.declared.found.FoundFunction.{FoundFunction}
use Rattle.import_targets.specs.Registers.{found_in}
use Rattle.import_targets.specs.Ranges.{does_fit, span_of, registers_for}

-- The functions below the root.

-- a bridge of the root's domain
abbrev pub is_bridge_of : Root → Function → Bool
is_bridge_of root function = is_in root.domain function && is_bridge function

-- a function of a device of the root's domain: any that is no bridge
abbrev pub is_device_of : Root → Function → Bool
is_device_of root function = is_in root.domain function && not (is_bridge function)

-- the bus of the board that a bus of the machine is: the root is bus 0, all others have their own numbers
abbrev pub bus_on_board : Root → ℕ → ℕ
bus_on_board root bus = if bus == root.bus then 0 else bus

-- the bus of the board that the function is on
abbrev pub place_of : Root → Function → ℕ
place_of root function = bus_on_board root function.slot.bus

-- Device numbers.

-- a function of the machine has the device number on the bus
abbrev pub is_in_text : Root → List Function → ℕ → ℕ → Bool
is_in_text root functions bus device =
    list_any (λ (other : Function). is_in root.domain other && (other.slot.bus == bus && other.slot.device == device)) functions

-- a bridge or a target of the board has it
abbrev pub is_given : Board → ℕ → ℕ → Bool
is_given board bus device =
    list_any (λ (bridge : Bridge). bridge.parent == bus && bridge.device == device) board.bridges
    || list_any (λ (target : Target). target.bus == bus && target.device == device) board.targets

-- a device number of the function's bus that the board or the machine has
abbrev pub is_used : Root → List Function → Board → Function → ℕ → Bool
is_used root functions board function device =
    is_in_text root functions function.slot.bus device || is_given board (place_of root function) device

-- each number below this passes
abbrev pub all_below : (ℕ → Bool) → ℕ → Bool
all_below test zero = true
all_below test (suc n) = test n && all_below test n

-- the board gave the function's device number to another, and none of the 32 is free
abbrev pub has_no_number : Root → List Function → Board → Function → Bool
has_no_number root functions board function =
    is_given board (place_of root function) function.slot.device && all_below (is_used root functions board function) 32

-- The windows of a bridge.

-- the window of a header that is decoded; none where its registers are zero, so that it ends with its first unit
abbrev pub decoded : ℕ → Bool → Option Window → Option Window
decoded zero_limit is_on None = None
decoded zero_limit is_on (Some window) = if is_on && not (window.limit == zero_limit) then Some window else None

-- the window shares an address with a window of the bridge for its space
abbrev pub meets_window : Space → Window → Bridge → Bool
meets_window Mem window bridge = window_meets bridge.mem window.base window.limit || window_meets bridge.pref window.base window.limit
meets_window Io window bridge = window_meets bridge.io window.base window.limit
meets_window Cfg window bridge = false

-- a bridge on the bus passes some of the window
abbrev pub passes_some : ℕ → Space → Window → Bridge → Bool
passes_some bus space window bridge = bridge.parent == bus && meets_window space window bridge

-- the bridge of the board cannot have the window: it lies in no window of the bridge above, or meets one of another bridge
abbrev pub is_window_barred : Board → Bridge → Space → Window → Bool
is_window_barred board bridge space window =
    not (is_reached board bridge.parent space window.base window.limit)
    || list_any (λ (other : Bridge). not (other.bus == bridge.bus) && passes_some bridge.parent space window other) board.bridges

-- the window that the bridge of the board has, first, is that of the header; it has none where there is none, or is barred
abbrev pub is_window_told : Board → Bridge → Space → Option Window → Option Window → Bool
is_window_told board bridge space (Some window) None = false
is_window_told board bridge space (Some window) (Some told) = window.base == told.base && window.limit == told.limit
is_window_told board bridge space None None = true
is_window_told board bridge space None (Some told) = is_window_barred board bridge space told

-- Bridges.

-- the buses and the master abort mode of the bridge are those of a header
abbrev pub has_numbers : Windows → Bridge → Bool
has_numbers windows bridge =
    windows.secondary == bridge.bus && (windows.subordinate == bridge.last && (if bridge.mode then windows.mode else not windows.mode))

-- so are its three windows, as far as the function decodes them
abbrev pub has_windows : Windows → Board → Function → Bridge → Bool
has_windows windows board function bridge =
    is_window_told board bridge Mem bridge.mem (decoded 0xfffff (decodes Mem function) windows.mem)
    && (is_window_told board bridge Mem bridge.pref (decoded 0xfffff (decodes Mem function) windows.pref)
    && is_window_told board bridge Io bridge.io (decoded 0xfff (decodes Io function) windows.io))

-- the bridge of the board is that of the function
abbrev pub is_bridge_by : Root → Board → Bridge → Function → Bool
is_bridge_by root board bridge function =
    is_bridge_of root function && (place_of root function == bridge.parent
    && (has_numbers (windows_of function.header) bridge && has_windows (windows_of function.header) board function bridge))

-- a function tells of the bridge of the board
abbrev pub is_bridge_told : Root → List Function → Board → Bridge → Bool
is_bridge_told root functions board bridge = list_any (is_bridge_by root board bridge) functions

-- a bridge on the bus has some of the buses from first to last
abbrev pub shares_buses : ℕ → ℕ → ℕ → Bridge → Bool
shares_buses bus first last bridge = bridge.parent == bus && (nat_le bridge.bus last && nat_le first bridge.last)

-- its buses pass those of the bridge above; of the root, which has none, none do
abbrev pub passes_above : ℕ → Option Bridge → Bool
passes_above last None = false
passes_above last (Some above) = nat_lt above.last last

-- the board cannot have the buses of the header: no bridge leads to the function's bus, or its buses are not above that,
-- pass those of the bridge above, or are in part those of a bridge beside it
abbrev pub are_buses_barred : Windows → Root → Board → Function → Bool
are_buses_barred windows root board function =
    not (is_bus board (place_of root function))
    || (not (nat_lt function.slot.bus windows.secondary && nat_le windows.secondary windows.subordinate)
    || (passes_above windows.subordinate (find (has_bus (place_of root function)) board.bridges)
    || list_any (shares_buses (place_of root function) windows.secondary windows.subordinate) board.bridges))

-- the bus has its eight bridges, or the board its 31
unfoldable pub is_full : Board → ℕ → Bool
is_full board bus = nat_le most_children (children_on board bus) || nat_le most_bridges (length board.bridges)

-- the bridge of the function is on the board, or has no place there; of any other function nothing is asked
abbrev pub is_bridge_kept : Root → List Function → Board → Function → Bool
is_bridge_kept root functions board function =
    not (is_bridge_of root function)
    || (list_any (λ (bridge : Bridge). is_bridge_by root board bridge function) board.bridges
    || (are_buses_barred (windows_of function.header) root board function
    || (is_full board (place_of root function) || has_no_number root functions board function)))

-- Targets.

-- `dQQ-DD`: bus and device number of the machine, in hexadecimal digits
abbrev pub target_name : ℕ → ℕ → List ℕ
target_name bus device =
    0x64 ∷ digit_glyph false (bus / 16) ∷ digit_glyph false (bus % 16)
    ∷ 0x2d ∷ digit_glyph false (device / 16) ∷ digit_glyph false (device % 16) ∷ []

-- the function is of the device that the target is
abbrev pub is_of_target : Root → Target → Function → Bool
is_of_target root target function =
    is_device_of root function && (place_of root function == target.bus
    && bytes_eq target.name (target_name function.slot.bus function.slot.device))

-- the register asks for a range that a board can have: it is decoded, has an address and a size, and fits its space
abbrev pub asks : Function → FoundFunction → Bool
asks function found = is_none found.flaw && (decodes found.space function && does_fit found)

-- the range is what the register asks for, rounded outwards
abbrev pub is_asked_by : Range → Function → FoundFunction → Bool
is_asked_by range function found =
    asks function found && (same_space range.space found.space
    && (range.base == (span_of found).base && range.base + range.size == (span_of found).limit + 1))

-- the range of the target is what a register of the function asks for
abbrev pub is_range_by : Root → Target → Range → Function → Bool
is_range_by root target range function = is_of_target root target function && list_any (is_asked_by range function) (found_in function)

-- a function of the target asks for the range
abbrev pub is_range_told : Root → List Function → Target → Range → Bool
is_range_told root functions target range = list_any (is_range_by root target range) functions

-- no function of the target comes before this one
abbrev pub is_first : Root → List Function → Target → Function → Bool
is_first root functions target function =
    list_all (λ (other : Function). not (is_of_target root target other) || nat_le function.slot.function other.slot.function) functions

-- the function is the first of the target, and has its vendor and device identification
abbrev pub is_id_by : Root → List Function → Target → Function → Bool
is_id_by root functions target function =
    is_of_target root target function && (is_first root functions target function
    && (register_2 function.header 0x00 == target.vendor && register_2 function.header 0x02 == target.model))

-- the first function of a device tells the target's identification, and its functions tell each of its ranges
abbrev pub is_target_told : Root → List Function → Target → Bool
is_target_told root functions target =
    list_any (is_id_by root functions target) functions && list_all (is_range_told root functions target) target.ranges

-- the range is for the space, and shares an address with the span
abbrev pub meets_range : Space → Window → Range → Bool
meets_range space span range = same_space range.space space && spans_meet span.base span.limit range.base (last_of range)

-- a target on the bus claims an address of the span
abbrev pub claims_some : ℕ → Space → Window → Target → Bool
claims_some bus space span target = target.bus == bus && list_any (meets_range space span) target.ranges

-- no target can have the span: it lies in no window of the bridge above, or meets a window or a range on its bus
abbrev pub is_span_barred : Board → ℕ → Space → Window → Bool
is_span_barred board bus space span =
    not (is_reached board bus space span.base span.limit)
    || (list_any (passes_some bus space span) board.bridges || list_any (claims_some bus space span) board.targets)

-- the function is of the target, which has fewer of its six base address registers left than the span takes
abbrev pub has_no_room : Root → Function → Window → Target → Bool
has_no_room root function span target =
    is_of_target root target function && not (nat_le (total registers_of target.ranges) (6 - registers_for span))

-- the bus has its six targets
unfoldable pub has_all_targets : Board → ℕ → Bool
has_all_targets board bus = nat_le 6 (count_by (λ (target : Target). target.bus == bus) board.targets)

-- the function is of no target, and there can be none for it: its bus has all, or no device number is free
abbrev pub has_no_target : Root → List Function → Board → Function → Bool
has_no_target root functions board function =
    not (list_any (λ (target : Target). is_of_target root target function) board.targets)
    && (has_all_targets board (place_of root function) || has_no_number root functions board function)

-- the target has the range that the register asks for
abbrev pub has_range : Root → Function → FoundFunction → Target → Bool
has_range root function found target =
    is_of_target root target function && list_any (λ (range : Range). is_asked_by range function found) target.ranges

-- what the register asks for is on the board, or has no place there; of one that asks for nothing nothing is asked
abbrev pub is_range_kept : Root → List Function → Board → Function → FoundFunction → Bool
is_range_kept root functions board function found =
    not (asks function found)
    || (list_any (has_range root function found) board.targets
    || (is_span_barred board (place_of root function) found.space (span_of found)
    || (list_any (has_no_room root function (span_of found)) board.targets || has_no_target root functions board function)))

-- so it is of each register of a function of a device on a bus of the board
abbrev pub are_ranges_kept : Root → List Function → Board → Function → Bool
are_ranges_kept root functions board function =
    not (is_device_of root function && is_bus board (place_of root function))
    || list_all (is_range_kept root functions board function) (found_in function)

-- What no function tells.

-- a bridge with the depths of one of which no depth is written
abbrev pub is_plain_bridge : Bridge → Bool
is_plain_bridge bridge = bridge.posted == 4 && bridge.delayed == 4

-- a target that claims ranges and no more
abbrev pub is_plain_target : Target → Bool
is_plain_target target =
    target.stalls == 0 && (target.burst == most_dwords && (length target.aborts == 0 && length target.openings == 0))

-- no masters, discards and drops; bridges and targets are plain
abbrev pub has_nothing_else : Board → Bool
has_nothing_else board =
    length board.masters == 0 && (length board.discards == 0 && (length board.drops == 0
    && (list_all is_plain_bridge board.bridges && list_all is_plain_target board.targets)))

-- the board is that of the machine of these functions, below the root: what is computed
abbrev pub is_machine : Root → List Function → Board → Bool
is_machine root functions board =
    list_all (is_bridge_told root functions board) board.bridges && (list_all (is_target_told root functions) board.targets
    && (list_all (is_bridge_kept root functions board) functions && (list_all (are_ranges_kept root functions board) functions
    && has_nothing_else board)))

-- the same, by name
pub record IsMachine (root : Root) (functions : List Function) (board : Board) : Type 0 where
  -- each bridge of the board is that of a function, with its buses, its mode and its windows
  pub bridges : list_all (is_bridge_told root functions board) board.bridges ≡ true
  -- each target is a device, with the identification of its first function, and each of its ranges is asked for there
  pub ranges : list_all (is_target_told root functions) board.targets ≡ true
  -- each bridge of the machine is on the board, or has no place there
  pub all_bridges : list_all (is_bridge_kept root functions board) functions ≡ true
  -- each range that a device on a bus of the board asks for is on the board, or has no place there
  pub all_ranges : list_all (are_ranges_kept root functions board) functions ≡ true
  -- there is nothing else on it
  pub nothing_else : has_nothing_else board ≡ true
