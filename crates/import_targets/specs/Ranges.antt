-- What a board has of the range that a register asks for.
use Rattle.std.specs.Prelude.{ℕ, Bool, ◌+◌, ◌-◌, ◌*◌, ◌/◌, ◌^◌, Option, Some, None, ◌&&◌, nat_lt, nat_le, if◌then◌else◌}
use Rattle.pci_command.specs.declared.command.Space.{Space}
use Rattle.pci_command.specs.declared.command.Space.TheVariants.{Mem, Io, Cfg}
use Rattle.board_model.specs.declared.bridge.Window.{Window}
use Rattle.import_targets.specs.declared.found.FoundFunction.{FoundFunction}

-- a range is rounded outwards to multiples of 64 in memory, of 4 in I/O
abbrev pub unit_of : Space → ℕ
unit_of Mem = 64
unit_of Io = 4
unit_of Cfg = 1

-- the first address, rounded down
abbrev pub rounded_base : Space → ℕ → ℕ
rounded_base space base = base / unit_of space * unit_of space

-- the address behind the last, rounded up
abbrev pub rounded_end : Space → ℕ → ℕ → ℕ
rounded_end space base size = (base + size + (unit_of space - 1)) / unit_of space * unit_of space

-- how many addresses a space has
abbrev pub end_of_space : Space → ℕ
end_of_space Mem = 2 ^ 64
end_of_space Io = 2 ^ 32
end_of_space Cfg = 0

-- the size; 0 where none is told
abbrev pub size_or_zero : Option ℕ → ℕ
size_or_zero None = 0
size_or_zero (Some size) = size

-- it ends within its space, has an address, and has not all
abbrev pub fits : Space → ℕ → ℕ → Bool
fits space base end = nat_le end (end_of_space space) && (nat_lt base end && nat_lt (end - base) (end_of_space space))

-- the range that the register asks for does
abbrev pub does_fit : FoundFunction → Bool
does_fit found = fits found.space (rounded_base found.space found.base) (rounded_end found.space found.base (size_or_zero found.size))

-- its addresses, from the first to the last
abbrev pub span_of : FoundFunction → Window
span_of found = record { base = rounded_base found.space found.base; limit = rounded_end found.space found.base (size_or_zero found.size) - 1 }

-- one whose base is 2^32 or above takes two registers
abbrev pub registers_for : Window → ℕ
registers_for span = if nat_lt span.base (2 ^ 32) then 1 else 2
