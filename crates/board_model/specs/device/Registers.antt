-- The configuration registers of a target, a dword each: PCI Local Bus Specification 2.2, section 6.1 (from memory).
use Rattle.std.specs.Prelude.{ℕ, ◌+◌, ◌-◌, ◌*◌, ◌/◌, ◌%◌, ◌^◌, List, [], ◌∷◌, ◌++◌, ◌&&◌, ◌==◌, nat_lt, nat_le, if◌then◌else◌, slice_index, bit_and, bit_or}
use Rattle.pci_command.specs.declared.command.Space.{Space}
use Rattle.pci_command.specs.declared.command.Space.TheVariants.{Mem, Io, Cfg}
use Rattle.pci_command.specs.declared.phases.Phase.{Phase}
use Rattle.board_model.specs.declared.agents.Range.{Range}
use Rattle.board_model.specs.declared.agents.Target.{Target}

-- bit 0 of a base address register: set for I/O (section 6.2.5.1, from memory)
abbrev pub io_bit : Space → ℕ
io_bit Mem = 0
io_bit Io = 1
io_bit Cfg = 0

-- the base address registers of a range: one, or from 2^32 on two, the first marked by bit 2
abbrev pub base_registers : Range → List ℕ
base_registers range =
    if nat_lt range.base (2 ^ 32)
    then bit_or range.base (io_bit range.space) ∷ []
    else bit_or (range.base % 2 ^ 32) 4 ∷ (range.base / 2 ^ 32) ∷ []

-- those of all ranges of a target, in their order
abbrev pub all_base_registers : List Range → List ℕ
all_base_registers [] = []
all_base_registers (range ∷ ranges) = base_registers range ++ all_base_registers ranges

-- what a register opens as: identification, command and status, class, and from 10 on the base addresses
abbrev pub opening_of : Target → ℕ → ℕ
opening_of target register =
    if register == 0 then 2 ^ 16 * target.model + target.vendor
    else if register == 1 then 0x0000_0007
    else if register == 2 then 0xff00_0000
    else if nat_le 4 register && nat_le register 9 then slice_index (all_base_registers target.ranges) (register - 4)
    else 0

-- which bits of a register a write changes: the command, the cache line size, the interrupt line
abbrev pub write_mask_of : ℕ → ℕ
write_mask_of register =
    if register == 1 then 0x0000_0007
    else if register == 3 then 0x0000_00ff
    else if register == 15 then 0x0000_00ff
    else 0

-- the bits of the bytes that are enabled
abbrev pub byte_enabled : ℕ → ℕ → ℕ
byte_enabled enables byte = if enables / 2 ^ byte % 2 == 1 then 0xff * 2 ^ (8 * byte) else 0

-- the bits of all four bytes of a dword
abbrev pub enabled_bits : ℕ → ℕ
enabled_bits enables = byte_enabled enables 0 + byte_enabled enables 1 + byte_enabled enables 2 + byte_enabled enables 3

-- the enabled bytes of the phase within the mask, and all else as it was
abbrev pub merge_of : ℕ → Phase → ℕ → ℕ
merge_of old phase mask =
    let taken = bit_and (enabled_bits phase.enables) mask in
    bit_or (bit_and old (0xffff_ffff - taken)) (bit_and phase.value taken)
