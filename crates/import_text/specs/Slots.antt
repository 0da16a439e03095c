-- A slot line: at its beginning optionally a domain of 4 to 8 digits and a colon, then `hh:hh.F` (bus, device, and
-- function from 0 to 7) and a space; the rest is the name.
use Rattle.std.specs.Prelude.{ℕ, Bool, ◌+◌, List, Option, Some, None, Result, Ok, Err, map, take, drop, slice_index, nat_le, ◌==◌, ◌&&◌, if◌then◌else◌}
use Rattle.board_text.specs.declared.numbers.NumberFault.{NumberFault}
use Rattle.board_text.specs.Numbers.{hex_answer}
use Rattle.import_text.specs.declared.slot.DeviceAddress.{DeviceAddress}
use Rattle.import_text.specs.Digits.{is_hex, hex_value, two_digits, hex_length}

-- the line begins with a domain
abbrev pub has_domain : List ℕ → Bool
has_domain line = nat_le 4 (hex_length line) && (nat_le (hex_length line) 8 && slice_index line (hex_length line) == 58)

-- where bus, device and function begin
abbrev pub place_start : List ℕ → ℕ
place_start line = if has_domain line then hex_length line + 1 else 0

-- a number that is read, and 0 where it is not
abbrev pub number_or_zero : Result ℕ NumberFault → ℕ
number_or_zero (Ok number) = number
number_or_zero (Err fault) = 0

-- 0 where none is given
abbrev pub domain_in : List ℕ → ℕ
domain_in line = if has_domain line then number_or_zero (hex_answer (take (hex_length line) line) 8) else 0

-- two digits, a colon, two digits, a point, a digit from 0 to 7 and a space
abbrev pub is_place : List ℕ → Bool
is_place text =
    is_hex (slice_index text 0) && (is_hex (slice_index text 1) && (slice_index text 2 == 58
    && (is_hex (slice_index text 3) && (is_hex (slice_index text 4) && (slice_index text 5 == 46
    && (nat_le 48 (slice_index text 6) && (nat_le (slice_index text 6) 55 && slice_index text 7 == 32)))))))

-- the slot that such a text says, in this domain
abbrev pub slot_in : ℕ → List ℕ → DeviceAddress
slot_in given text = record {
  domain = given;
  bus = two_digits (slice_index text 0) (slice_index text 1);
  device = two_digits (slice_index text 3) (slice_index text 4);
  function = hex_value (slice_index text 6);
}

-- the slot that a line begins with, if it is a slot line
abbrev pub slot_of : List ℕ → Option DeviceAddress
slot_of line =
    if is_place (drop (place_start line) line) then Some (slot_in (domain_in line) (drop (place_start line) line)) else None

-- a byte outside 20 to 7e is shown as `?`
abbrev pub shown : ℕ → ℕ
shown byte = if nat_le 32 byte && nat_le byte 126 then byte else 63

-- the first 160 bytes of what stands behind the place
abbrev pub name_of : List ℕ → List ℕ
name_of line = map shown (take 160 (drop 8 (drop (place_start line) line)))
