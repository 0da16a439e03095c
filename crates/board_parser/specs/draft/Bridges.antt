-- When a bridge is added to a board: by its `bridge` line, or by the header that a `header` line gives.
use Rattle.std.specs.Prelude.{ℕ, Bool, true, false, ◌+◌, ◌%◌, ◌^◌, List, [], ◌∷◌, ◌++◌, length, Option, Some, None, Result, Ok, Err, not, ◌&&◌, ◌||◌, ◌==◌, nat_le, if◌then◌else◌}
use Rattle.std.specs.List.{list_any}
use Rattle.board_model.specs.Limits.{most_bridges, most_children}
use Rattle.board_model.specs.declared.bridge.Window.{Window}
use Rattle.board_model.specs.declared.bridge.Bridge.{Bridge}
use Rattle.board_model.specs.declared.board.Board.{Board}
use Rattle.board_model.specs.WellFormed.{has_bus, children_on}
use Rattle.board_headers.specs.declared.windows.Windows.{Windows}
use Rattle.board_headers.specs.declared.fault.HeaderFault.{HeaderFault}
use Rattle.board_headers.specs.declared.fault.HeaderFault.TheVariants.{H1, H2, H3}
use Rattle.board_headers.specs.Windows.{reading_of}
use Rattle.text_faults.specs.declared.board_line.LineFault.{LineFault}
use Rattle.text_faults.specs.declared.board_line.LineFault.TheVariants.{Unaligned, PastItsSpace, BusUsed, OverLimit, NotTypeOne, NotServed, NoBridgeNumbers, WideWindow}
use Rattle.board_parser.specs.declared.draft.draft.Draft.{Draft}
use Rattle.board_parser.specs.draft.Drafts.{draft_of}

-- the window begins and ends at whole units
abbrev pub is_whole : ℕ → Option Window → Bool
is_whole unit None = true
is_whole unit (Some window) = window.base % unit == 0 && (window.limit + 1) % unit == 0

-- memory in units of 1 MiB, I/O in units of 4 KiB
abbrev pub are_windows_whole : Bridge → Bool
are_windows_whole bridge = is_whole (2 ^ 20) bridge.mem && is_whole (2 ^ 20) bridge.pref && is_whole (2 ^ 12) bridge.io

-- the window does not end before it begins
abbrev pub is_ordered : Option Window → Bool
is_ordered None = true
is_ordered (Some window) = nat_le window.base window.limit

-- the same of all windows of a bridge
abbrev pub are_windows_ordered : Bridge → Bool
are_windows_ordered bridge = is_ordered bridge.mem && is_ordered bridge.pref && is_ordered bridge.io

-- a bridge to a bus that no other has; few bridges, and few below one bus
abbrev pub put_bridge : Bool → Board → Bridge → Result Draft LineFault
put_bridge wide board bridge =
    if list_any (has_bus bridge.bus) board.bridges then Err BusUsed
    else if nat_le most_bridges (length board.bridges) || nat_le most_children (children_on board bridge.parent) then Err OverLimit
    else Ok (draft_of wide (record board { bridges = board.bridges ++ bridge ∷ [] }))

-- a `bridge` line: the units of all windows before the order of any
abbrev pub add_bridge : Bool → Board → Bridge → Result Draft LineFault
add_bridge wide board bridge =
    if not (are_windows_whole bridge) then Err Unaligned
    else if not (are_windows_ordered bridge) then Err PastItsSpace
    else put_bridge wide board bridge

-- the fault of the line whose header has this fault
abbrev pub fault_of : HeaderFault → LineFault
fault_of H1 = NotTypeOne
fault_of H2 = NotServed
fault_of H3 = NoBridgeNumbers

-- the window is open and has addresses from 2^32 on, which the text may not have
abbrev pub is_too_wide : Bool → Option Window → Bool
is_too_wide wide None = false
is_too_wide wide (Some window) = not wide && nat_le (2 ^ 32) window.limit

-- the bridge with these windows and depths, as that device
abbrev pub bridge_of : Windows → ℕ → ℕ → ℕ → Bridge
bridge_of windows device posted delayed = record {
  bus = windows.secondary;
  parent = windows.primary;
  device = device;
  last = windows.subordinate;
  mem = windows.mem;
  pref = windows.pref;
  io = windows.io;
  posted = posted;
  delayed = delayed;
  mode = windows.mode;
}

-- the bridge of which a header says this
abbrev pub put_header : Bool → Board → ℕ → ℕ → ℕ → Result Windows HeaderFault → Result Draft LineFault
put_header wide board device posted delayed (Err fault) = Err (fault_of fault)
put_header wide board device posted delayed (Ok windows) =
    if is_too_wide wide windows.pref then Err WideWindow
    else put_bridge wide board (bridge_of windows device posted delayed)

-- a `header` line
abbrev pub add_header : Bool → Board → ℕ → List ℕ → ℕ → ℕ → Result Draft LineFault
add_header wide board device bytes posted delayed = put_header wide board device posted delayed (reading_of bytes)
