-- What the base address registers of a function ask for: PCI Local Bus Specification 2.2, section 6.2.5.1 (from memory).
use Rattle.std.specs.Prelude.{ℕ, Bool, zero, suc, ◌+◌, ◌*◌, ◌^◌, List, [], ◌∷◌, ◌++◌, Option, Some, None, is_none, not, ◌==◌, ◌&&◌, nat_lt, if◌then◌else◌, slice_get}
use Rattle.pci_command.specs.declared.command.Space.{Space}
use Rattle.pci_command.specs.declared.command.Space.TheVariants.{Mem, Io}
use Rattle.board_model.specs.HeaderBytes.{bits, register_4}
use Rattle.import_text.specs.declared.function.Function.{Function}
use Rattle.import_bridges.specs.Functions.{header_type}
use Rattle.import_targets.specs.declared.found.Flaw.{Flaw}
use Rattle.import_targets.specs.declared.found.Flaw.TheVariants.{NoHalf, NoAddress, NoSize}
use Rattle.import_targets.specs.declared.found.FoundFunction.{FoundFunction}

-- the register with that number, and the size that the text tells of it
abbrev pub value_at : Function → ℕ → ℕ
value_at function n = register_4 function.header (16 + 4 * n)

-- a size, where there is a register and a size of it
abbrev pub flat : Option (Option ℕ) → Option ℕ
flat None = None
flat (Some size) = size

-- the size that the text tells of the register, if it does
abbrev pub size_at : Function → ℕ → Option ℕ
size_at function n = flat (slice_get function.sizes n)

-- bit 0 says I/O; in memory bits 2 and 1 are 2 where the next register is the upper half
abbrev pub is_io : ℕ → Bool
is_io value = bits 0 1 value == 1

-- the register and the next are one address of 64 bits
abbrev pub is_wide : ℕ → Bool
is_wide value = not (is_io value) && bits 1 2 value == 2

-- the space of the register
abbrev pub space_by : ℕ → Space
space_by value = if is_io value then Io else Mem

-- the address without the bits that tell the kind
abbrev pub low_base : ℕ → ℕ
low_base value = if is_io value then 2 ^ 2 * bits 2 30 value else 2 ^ 4 * bits 4 28 value

-- a register that is zero and has no size, or has all bits set, is not there
abbrev pub is_there : ℕ → Option ℕ → Bool
is_there value size = not (value == 0 && is_none size) && not (value == 0xffffffff)

-- its base, where it is one of so many registers
abbrev pub base_at : Function → ℕ → ℕ → ℕ
base_at function many n =
    let value : ℕ = value_at function n in
    if is_wide value && nat_lt (n + 1) many then 2 ^ 32 * value_at function (n + 1) + low_base value else low_base value

-- what keeps it from being a range: its upper half is missing, it has no address, or its size is not told
abbrev pub flaw_at : Function → ℕ → ℕ → Option Flaw
flaw_at function many n =
    if is_wide (value_at function n) && not (nat_lt (n + 1) many) then Some NoHalf
    else if base_at function many n == 0 then Some NoAddress
    else if is_none (size_at function n) then Some NoSize
    else None

-- the range that the register asks for, or none where it is not there
abbrev pub found_at : Function → ℕ → ℕ → List FoundFunction
found_at function many n =
    if is_there (value_at function n) (size_at function n)
    then record {
      number = n;
      space = space_by (value_at function n);
      base = base_at function many n;
      size = size_at function n;
      flaw = flaw_at function many n;
    } ∷ []
    else []

-- the next register that is none's upper half
abbrev pub behind : Function → ℕ → ℕ
behind function n = if is_wide (value_at function n) then n + 2 else n + 1

-- of so many registers those from n on, in so many steps at most
abbrev pub found_from : ℕ → Function → ℕ → ℕ → List FoundFunction
found_from zero function many n = []
found_from (suc steps) function many n =
    if nat_lt n many then found_at function many n ++ found_from steps function many (behind function n) else []

-- a device has six of them, a bridge two, and no other header is known
abbrev pub registers_of : Function → ℕ
registers_of function = if header_type function == 0 then 6 else if header_type function == 1 then 2 else 0

-- the ranges that a function asks for, by its registers
unfoldable pub found_in : Function → List FoundFunction
found_in function = found_from 6 function (registers_of function) 0
