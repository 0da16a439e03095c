-- A region line: a tab or eight spaces, `Region N: ` with N from 0 to 5, and somewhere behind it `[size=`, 1 to 10 decimal
-- digits, one of K, M, G, T or nothing, and `]`; the last such counts.
use Rattle.std.specs.Prelude.{ℕ, Bool, ◌-◌, ◌*◌, ◌^◌, List, [], ◌∷◌, Option, Some, None, codes, take, drop, slice_index, length, min, nat_le, nat_lt, ◌==◌, ◌&&◌, if◌then◌else◌}
use Rattle.std.specs.List.{starts_with, position_or_len}
use Rattle.std.specs.Str.Parse.{digits_value}
use Rattle.board_text.specs.Numbers.{is_numeral}

-- the text begins with the word
abbrev pub begins_with : List ℕ → List ℕ → Bool
begins_with word text = starts_with (λ a b. a == b) text word

-- how far a line is indented: by a tab or eight spaces, or not
abbrev pub indent : List ℕ → ℕ
indent line = if slice_index line 0 == 9 then 1 else if begins_with (codes "        ") line then 8 else 0

-- what a unit stands for: K, M, G, T; 1 for any other byte
abbrev pub unit_value : ℕ → ℕ
unit_value byte =
    if byte == 75 then 2 ^ 10 else if byte == 77 then 2 ^ 20 else if byte == 71 then 2 ^ 30 else if byte == 84 then 2 ^ 40 else 1

-- 1 to 10 digits, times a unit; 2^64 - 1 stands for what is above it too
abbrev pub size_by : List ℕ → ℕ → Option ℕ
size_by digits unit =
    if is_numeral 10 digits && nat_le (length digits) 10 then Some (min (digits_value 10 digits * unit) (2 ^ 64 - 1)) else None

-- digits, and a unit or none
abbrev pub size_between : List ℕ → ℕ → Option ℕ
size_between text unit = if unit == 1 then size_by text 1 else size_by (take (length text - 1) text) unit

-- the byte `]`
abbrev pub is_close : ℕ → Bool
is_close byte = byte == 93

-- what stands before the first `]`, if that is among the next twelve bytes
abbrev pub size_in : List ℕ → Option ℕ
size_in text =
    if nat_lt (position_or_len is_close text) (length text)
    then size_between (take (position_or_len is_close text) text) (unit_value (slice_index text (position_or_len is_close text - 1)))
    else None

-- the size that begins here
abbrev pub size_at : List ℕ → Option ℕ
size_at text = if begins_with (codes "[size=") text then size_in (take 12 (drop 6 text)) else None

-- the first of the two that is there
abbrev pub or_else : Option ℕ → Option ℕ → Option ℕ
or_else None other = other
or_else (Some size) other = Some size

-- the last size in a text
abbrev pub last_size : List ℕ → Option ℕ
last_size [] = None
last_size (byte ∷ bytes) = or_else (last_size bytes) (size_at (byte ∷ bytes))

-- the number of a region, and a space behind its colon
abbrev pub is_region : List ℕ → Bool
is_region text =
    begins_with (codes "Region ") text && (nat_le 48 (slice_index text 7) && (nat_le (slice_index text 7) 53
    && (slice_index text 8 == 58 && slice_index text 9 == 32)))

-- what stands behind the indentation
abbrev pub indented : List ℕ → List ℕ
indented line = if indent line == 0 then [] else drop (indent line) line

-- the size that a line tells, if it is a line of a region
abbrev pub region_size : List ℕ → Option ℕ
region_size line = if is_region (indented line) then last_size (drop 10 (indented line)) else None

-- the number in a line of a region, 0 to 5
abbrev pub region_number : List ℕ → ℕ
region_number line = slice_index (indented line) 7 - 48
