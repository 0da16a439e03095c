-- The type 1 configuration header of a bridge, register by register and by offset: PCI-to-PCI Bridge Architecture
-- Specification 1.1, section 3.2 (from memory).
use Rattle.std.specs.Prelude.{ℕ, Bool, true, false, ◌+◌, ◌*◌, ◌/◌, ◌%◌, ◌^◌, List, [], ◌∷◌, ◌++◌, Option, Some, None, nat_le, if◌then◌else◌, slice_index, replicate}
use Rattle.board_model.specs.declared.bridge.Bridge.{Bridge}
use Rattle.board_model.specs.declared.bridge.Window.{Window}

-- a register of two bytes, of four, lowest byte first
abbrev pub bytes_2 : ℕ → List ℕ
bytes_2 n = (n % 2 ^ 8) ∷ (n / 2 ^ 8 % 2 ^ 8) ∷ []

-- the same of four bytes
abbrev pub bytes_4 : ℕ → List ℕ
bytes_4 n = bytes_2 n ++ bytes_2 (n / 2 ^ 16)

-- `width` bits of a number, from bit `from` on
abbrev pub bits : ℕ → ℕ → ℕ → ℕ
bits from width n = n / 2 ^ from % 2 ^ width

-- I/O Base and I/O Limit: address bits 15 to 12 in the upper half, in the lower a 1 for 32-bit addresses; closed: f1, 01
abbrev pub io_base : Option Window → ℕ
io_base None = 0xf1
io_base (Some window) = 16 * bits 12 4 window.base + 1

-- the same of I/O Limit
abbrev pub io_limit : Option Window → ℕ
io_limit None = 0x01
io_limit (Some window) = 16 * bits 12 4 window.limit + 1

-- I/O Base and I/O Limit Upper 16 Bits: address bits 31 to 16; closed: 0, 0
abbrev pub io_base_upper : Option Window → ℕ
io_base_upper None = 0
io_base_upper (Some window) = bits 16 16 window.base

-- the same of the limit
abbrev pub io_limit_upper : Option Window → ℕ
io_limit_upper None = 0
io_limit_upper (Some window) = bits 16 16 window.limit

-- Memory Base and Memory Limit: address bits 31 to 20 in the upper 12 bits; closed: fff0, 0000
abbrev pub memory_base : Option Window → ℕ
memory_base None = 0xfff0
memory_base (Some window) = 16 * bits 20 12 window.base

-- the same of the limit
abbrev pub memory_limit : Option Window → ℕ
memory_limit None = 0x0000
memory_limit (Some window) = 16 * bits 20 12 window.limit

-- a prefetchable window that reaches 2^32 has 64-bit registers, which their low nibbles say
abbrev pub is_wide : Window → Bool
is_wide window = nat_le (2 ^ 32) window.limit

-- the lowest bit of both registers, which says so
abbrev pub wide_bit : Window → ℕ
wide_bit window = if is_wide window then 1 else 0

-- Prefetchable Memory Base and Limit: likewise, with a 1 in the lowest bit of both where they are 64-bit
abbrev pub prefetchable_base : Option Window → ℕ
prefetchable_base None = 0xfff0
prefetchable_base (Some window) = 16 * bits 20 12 window.base + wide_bit window

-- the same of the limit
abbrev pub prefetchable_limit : Option Window → ℕ
prefetchable_limit None = 0x0000
prefetchable_limit (Some window) = 16 * bits 20 12 window.limit + wide_bit window

-- Prefetchable Base and Limit Upper 32 Bits: address bits 63 to 32 where they are 64-bit, else 0
abbrev pub prefetchable_base_upper : Option Window → ℕ
prefetchable_base_upper None = 0
prefetchable_base_upper (Some window) = if is_wide window then bits 32 32 window.base else 0

-- the same of the limit
abbrev pub prefetchable_limit_upper : Option Window → ℕ
prefetchable_limit_upper None = 0
prefetchable_limit_upper (Some window) = if is_wide window then bits 32 32 window.limit else 0

-- Bridge Control: bit 5 is the master abort mode
abbrev pub control_of : Bool → ℕ
control_of false = 0
control_of true = 2 ^ 5

-- the 64 bytes by offset; what is not named is 0
abbrev pub header_bytes : Bridge → List ℕ
header_bytes bridge =
    -- 00 vendor, 02 device
    bytes_2 0x1234 ++ (bytes_2 0x0100 ++
    -- 04 command: I/O space, memory space and bus master; 06 status
    (bytes_2 0x0007 ++ (bytes_2 0 ++
    -- 08 revision, 09 to 0B class
    ((0x00 ∷ 0x00 ∷ 0x04 ∷ 0x06 ∷ []) ++
    -- 0C cache line size, 0D latency timer, 0E header type, 0F self test
    ((0x00 ∷ 0x00 ∷ 0x01 ∷ 0x00 ∷ []) ++
    -- 10 to 17 base address registers
    (replicate 8 0 ++
    -- 18 primary, 19 secondary, 1A subordinate bus, 1B secondary latency timer
    ((bridge.parent ∷ bridge.bus ∷ bridge.last ∷ 0x00 ∷ []) ++
    -- 1C I/O base, 1D I/O limit, 1E secondary status
    ((io_base bridge.io ∷ io_limit bridge.io ∷ []) ++ (bytes_2 0 ++
    -- 20 memory base, 22 memory limit
    (bytes_2 (memory_base bridge.mem) ++ (bytes_2 (memory_limit bridge.mem) ++
    -- 24 prefetchable base, 26 prefetchable limit
    (bytes_2 (prefetchable_base bridge.pref) ++ (bytes_2 (prefetchable_limit bridge.pref) ++
    -- 28 upper prefetchable base, 2C upper prefetchable limit
    (bytes_4 (prefetchable_base_upper bridge.pref) ++ (bytes_4 (prefetchable_limit_upper bridge.pref) ++
    -- 30 upper I/O base, 32 upper I/O limit
    (bytes_2 (io_base_upper bridge.io) ++ (bytes_2 (io_limit_upper bridge.io) ++
    -- 34 to 3D capabilities, expansion ROM, interrupt line and pin
    (replicate 10 0 ++
    -- 3E bridge control
    bytes_2 (control_of bridge.mode)))))))))))))))))))

-- the byte at that offset, and the registers of two and of four bytes from there on
abbrev pub register_2 : List ℕ → ℕ → ℕ
register_2 bytes offset = slice_index bytes offset + 2 ^ 8 * slice_index bytes (offset + 1)

-- the same of four bytes
abbrev pub register_4 : List ℕ → ℕ → ℕ
register_4 bytes offset = register_2 bytes offset + 2 ^ 16 * register_2 bytes (offset + 2)

-- the register with that number, a dword of these bytes; 0 above register 15
abbrev pub header_word : Bridge → ℕ → ℕ
header_word bridge register = register_4 (header_bytes bridge) (4 * register)
