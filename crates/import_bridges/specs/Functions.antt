-- The functions of a machine that are looked at: those of one domain, and which of them are bridges. Registers are read by
-- offset, low byte first (PCI Local Bus Specification 2.2, section 6.1; from memory).
use Rattle.std.specs.Prelude.{ℕ, Bool, ◌-◌, ◌^◌, min, List, [], ◌∷◌, ◌==◌, slice_index}
use Rattle.std.specs.List.{filter}
use Rattle.import_text.specs.declared.function.Function.{Function}
use Rattle.import_bridges.specs.declared.machine.Root.{Root}
use Rattle.board_model.specs.HeaderBytes.{bits}

-- the least number that the functions have, and at most this
abbrev pub least : (Function → ℕ) → ℕ → List Function → ℕ
least number most [] = most
least number most (function ∷ functions) = least number (min most (number function)) functions

-- the function is in the domain
abbrev pub is_in : ℕ → Function → Bool
is_in domain function = function.slot.domain == domain

-- the domain of a function
abbrev pub domain_of : Function → ℕ
domain_of function = function.slot.domain

-- the bus of a function
abbrev pub bus_of : Function → ℕ
bus_of function = function.slot.bus

-- the least domain, and its least bus
abbrev pub least_domain : List Function → ℕ
least_domain functions = least domain_of (2 ^ 32 - 1) functions

-- where no root is asked for: the least bus of the least domain
abbrev pub first_root : List Function → Root
first_root functions =
    record { domain = least_domain functions; bus = least bus_of 255 (filter (is_in (least_domain functions)) functions) }

-- the kind of a header, whatever bit 7 says of several functions: 1 is that of a bridge
abbrev pub header_type : Function → ℕ
header_type function = bits 0 7 (slice_index function.header 0x0e)

-- the header is that of a bridge
abbrev pub is_bridge : Function → Bool
is_bridge function = header_type function == 1
