-- What a type 1 header says of buses and windows, and when it is refused: PCI-to-PCI Bridge Architecture Specification
-- 1.1, section 3.2 (from memory).
use Rattle.std.specs.Prelude.{ℕ, Bool, ◌+◌, ◌*◌, ◌^◌, List, Option, Some, None, Result, Ok, Err, not, ◌&&◌, ◌||◌, ◌==◌, nat_lt, nat_le, if◌then◌else◌, slice_index}
use Rattle.board_model.specs.declared.bridge.Bridge.{Bridge}
use Rattle.board_model.specs.declared.bridge.Window.{Window}
use Rattle.board_model.specs.WellFormed.{is_window}
use Rattle.board_headers.specs.declared.windows.Windows.{Windows}
use Rattle.board_headers.specs.declared.fault.HeaderFault.{HeaderFault}
use Rattle.board_headers.specs.declared.fault.HeaderFault.TheVariants.{H1, H2, H3}
use Rattle.board_model.specs.HeaderBytes.{bits, register_2, register_4}

-- a window from base to limit; a base above the limit closes it
abbrev pub window_between : ℕ → ℕ → Option Window
window_between base limit = if nat_le base limit then Some (record { base = base; limit = limit }) else None

-- memory: bits 31 to 20 of base and limit in the upper 12 bits of the registers; a limit ends in fffff
abbrev pub memory_window : List ℕ → Option Window
memory_window bytes =
    window_between (2 ^ 20 * bits 4 12 (register_2 bytes 0x20)) (2 ^ 20 * bits 4 12 (register_2 bytes 0x22) + 0xfffff)

-- the upper half of a 64-bit base or limit; 0 where the low nibble of the prefetchable base is not 1
abbrev pub prefetchable_upper : List ℕ → ℕ → ℕ
prefetchable_upper bytes offset = if bits 0 4 (slice_index bytes 0x24) == 1 then register_4 bytes offset else 0

-- prefetchable memory: likewise, below the upper halves
abbrev pub prefetchable_window : List ℕ → Option Window
prefetchable_window bytes =
    window_between (2 ^ 32 * prefetchable_upper bytes 0x28 + 2 ^ 20 * bits 4 12 (register_2 bytes 0x24))
    (2 ^ 32 * prefetchable_upper bytes 0x2c + 2 ^ 20 * bits 4 12 (register_2 bytes 0x26) + 0xfffff)

-- the upper half of a 32-bit I/O base or limit; 0 where the low nibble of the I/O base is not 1
abbrev pub io_upper : List ℕ → ℕ → ℕ
io_upper bytes offset = if bits 0 4 (slice_index bytes 0x1c) == 1 then register_2 bytes offset else 0

-- I/O: bits 15 to 12 of base and limit in the upper nibbles, below the upper halves; a limit ends in fff
abbrev pub io_window : List ℕ → Option Window
io_window bytes =
    window_between (2 ^ 16 * io_upper bytes 0x30 + 2 ^ 12 * bits 4 4 (slice_index bytes 0x1c))
    (2 ^ 16 * io_upper bytes 0x32 + 2 ^ 12 * bits 4 4 (slice_index bytes 0x1d) + 0xfff)

-- that bit of a register is set
abbrev pub has_bit : ℕ → ℕ → Bool
has_bit bit register = bits bit 1 register == 1

-- what a header says: bus numbers, windows, and by bit 5 of Bridge Control the master abort mode
abbrev pub windows_of : List ℕ → Windows
windows_of bytes = record {
  primary = slice_index bytes 0x18;
  secondary = slice_index bytes 0x19;
  subordinate = slice_index bytes 0x1a;
  mem = memory_window bytes;
  pref = prefetchable_window bytes;
  io = io_window bytes;
  mode = has_bit 5 (register_2 bytes 0x3e);
}

-- the header type is 1, whatever bit 7 says of several functions
abbrev pub is_type_1 : List ℕ → Bool
is_type_1 bytes = bits 0 7 (slice_index bytes 0x0e) == 1

-- in the command register I/O space, memory space and bus master are enabled
abbrev pub is_enabled : List ℕ → Bool
is_enabled bytes =
    let command = register_2 bytes 0x04 in
    has_bit 0 command && has_bit 1 command && has_bit 2 command

-- in Bridge Control ISA enable, VGA enable or secondary bus reset is set
abbrev pub has_refused_control : List ℕ → Bool
has_refused_control bytes =
    let control = register_2 bytes 0x3e in
    has_bit 2 control || has_bit 3 control || has_bit 6 control

-- the buses behind the bridge are numbered above its primary bus
abbrev pub has_ordered_buses : Windows → Bool
has_ordered_buses windows = nat_lt windows.primary windows.secondary && nat_le windows.secondary windows.subordinate

-- what a header says, or its first fault
abbrev pub reading_of : List ℕ → Result Windows HeaderFault
reading_of bytes =
    if not (is_type_1 bytes) then Err H1
    else if not (is_enabled bytes) || has_refused_control bytes then Err H2
    else if not (has_ordered_buses (windows_of bytes)) then Err H3
    else Ok (windows_of bytes)

-- what the header of a bridge has to say
abbrev pub windows_in : Bridge → Windows
windows_in bridge = record {
  primary = bridge.parent;
  secondary = bridge.bus;
  subordinate = bridge.last;
  mem = bridge.mem;
  pref = bridge.pref;
  io = bridge.io;
  mode = bridge.mode;
}

-- windows that registers can hold: memory in units of 1 MiB, I/O of 4 KiB; below 2^64 where prefetchable, else below 2^32
abbrev pub has_whole_windows : Windows → Bool
has_whole_windows windows =
    is_window (2 ^ 20) (2 ^ 32) windows.mem && is_window (2 ^ 20) (2 ^ 64) windows.pref
    && is_window (2 ^ 12) (2 ^ 32) windows.io
