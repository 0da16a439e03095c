-- How numbers are written. A decimal number is `decimal` of the standard library: no leading zeros.
use Rattle.std.specs.Prelude.{ℕ, zero, suc, ◌/◌, ◌%◌, ◌^◌, false, List, [], ◌∷◌, ◌++◌, ◌==◌, nat_lt, if◌then◌else◌}
use Rattle.std.specs.Fmt.{digit_glyph}
use Rattle.pci_command.specs.declared.phases.Phase.{Phase}

-- the low so many hexadecimal digits of a number, in lower case
abbrev pub hex : ℕ → ℕ → List ℕ
hex zero n = []
hex (suc digits) n = hex digits (n / 16) ++ digit_glyph false (n % 16) ∷ []

-- a number of 32 bits: eight digits
unfoldable pub word_text : ℕ → List ℕ
word_text n = hex 8 n

-- a number of 16 bits: four digits
unfoldable pub half_text : ℕ → List ℕ
half_text n = hex 4 n

-- an address, a size or a limit: eight digits below 2^32; from there on `UPPER:LOWER`, each eight digits
unfoldable pub address_text : ℕ → List ℕ
address_text n =
    if nat_lt n (2 ^ 32) then word_text n else word_text (n / 2 ^ 32) ++ 58 ∷ word_text (n % 2 ^ 32)

-- `/E`, left out if all four bytes are enabled
abbrev pub enables_text : ℕ → List ℕ
enables_text enables = if enables == 15 then [] else 47 ∷ digit_glyph false enables ∷ []

-- `VALUE` or `VALUE/E`: four bits enable the four bytes
unfoldable pub phase_text : Phase → List ℕ
phase_text phase = word_text phase.value ++ enables_text (phase.enables % 16)
