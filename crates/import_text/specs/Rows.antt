-- A row: an offset of 2 or 3 digits, a colon, then sixteen times a space and two digits; spaces may follow.
use Rattle.std.specs.Prelude.{ℕ, Bool, ◌+◌, ◌*◌, List, map, take, drop, slice_index, ◌==◌, ◌&&◌, ◌||◌}
use Rattle.std.specs.List.{list_all, range_with_len}
use Rattle.board_text.specs.Numbers.{hex_answer}
use Rattle.import_text.specs.Digits.{is_hex, two_digits, hex_length}
use Rattle.import_text.specs.Slots.{number_or_zero}

-- a space and two digits, where the byte of this number stands
abbrev pub has_byte : List ℕ → ℕ → Bool
has_byte text k =
    slice_index text (3 * k) == 32 && (is_hex (slice_index text (3 * k + 1)) && is_hex (slice_index text (3 * k + 2)))

-- the value of that byte
abbrev pub byte_in : List ℕ → ℕ → ℕ
byte_in text k = two_digits (slice_index text (3 * k + 1)) (slice_index text (3 * k + 2))

-- what stands behind the colon
abbrev pub row_text : List ℕ → List ℕ
row_text line = drop (hex_length line + 1) line

-- all sixteen bytes stand there
unfoldable pub has_bytes : List ℕ → Bool
has_bytes text = list_all (has_byte text) (range_with_len 0 16)

-- their values
unfoldable pub bytes_in : List ℕ → List ℕ
bytes_in text = map (byte_in text) (range_with_len 0 16)

-- the line is a row
abbrev pub is_row : List ℕ → Bool
is_row line =
    (hex_length line == 2 || hex_length line == 3) && (slice_index line (hex_length line) == 58
    && (has_bytes (row_text line) && list_all (λ byte. byte == 32) (drop 48 (row_text line))))

-- the offset that a row begins with
abbrev pub offset_of : List ℕ → ℕ
offset_of line = number_or_zero (hex_answer (take (hex_length line) line) 3)

-- the sixteen bytes of a row
abbrev pub row_bytes : List ℕ → List ℕ
row_bytes line = bytes_in (row_text line)
