-- Hexadecimal digits as `lspci` writes them, in lower case, and what stands at a place of a text.
use Rattle.std.specs.Prelude.{ℕ, Bool, ◌+◌, ◌*◌, ◌-◌, List, nat_le, not, ◌&&◌, ◌||◌, if◌then◌else◌}
use Rattle.std.specs.List.{position_or_len}

-- 0 to 9 or a to f
abbrev pub is_hex : ℕ → Bool
is_hex byte = (nat_le 48 byte && nat_le byte 57) || (nat_le 97 byte && nat_le byte 102)

-- any other byte
abbrev pub is_no_hex : ℕ → Bool
is_no_hex byte = not (is_hex byte)

-- the value of such a digit, and 0 for any other byte
abbrev pub hex_value : ℕ → ℕ
hex_value byte =
    if nat_le 48 byte && nat_le byte 57 then byte - 48
    else if nat_le 97 byte && nat_le byte 102 then byte - 87
    else 0

-- the value of two digits
abbrev pub two_digits : ℕ → ℕ → ℕ
two_digits high low = 16 * hex_value high + hex_value low

-- how many digits a text begins with
abbrev pub hex_length : List ℕ → ℕ
hex_length text = position_or_len is_no_hex text
