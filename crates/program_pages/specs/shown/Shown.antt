-- Lines for a terminal.
use Rattle.std.specs.Prelude.{ℕ, Bool, ◌&&◌, ◌||◌, ◌==◌, nat_le, List, [], ◌∷◌, ◌++◌, map, take, if◌then◌else◌}

-- a printing character of ASCII
abbrev pub is_printing : ℕ → Bool
is_printing byte = nat_le 32 byte && nat_le byte 126

-- such a character, or a newline
abbrev pub is_shown : ℕ → Bool
is_shown byte = byte == 10 || is_printing byte

-- how a byte is shown: a tab as a space, any other that is no printing character as `?`
abbrev pub shown : ℕ → ℕ
shown byte = if is_printing byte then byte else if byte == 9 then 32 else 63

-- a line
abbrev pub whole_line : List ℕ → List ℕ
whole_line text = map shown text ++ (10 ∷ [])

-- a line of at most 120 columns
abbrev pub shown_line : List ℕ → List ℕ
shown_line text = whole_line (take 120 text)
