-- The names of targets and masters.
use Rattle.std.specs.Prelude.{ℕ, Bool, false, List, [], ◌∷◌, length, ◌&&◌, ◌||◌, ◌==◌, nat_le}
use Rattle.std.specs.List.{list_all}

-- A to Z and a to z
abbrev pub is_name_start : ℕ → Bool
is_name_start c = (nat_le 65 c && nat_le c 90) || (nat_le 97 c && nat_le c 122)

-- a letter, a digit, `_` or `-`
abbrev pub is_name_byte : ℕ → Bool
is_name_byte c = is_name_start c || (nat_le 48 c && nat_le c 57) || c == 95 || c == 45

-- 1 to 16 such bytes, the first a letter
abbrev pub is_name : List ℕ → Bool
is_name [] = false
is_name (c ∷ cs) = is_name_start c && nat_le (length cs) 15 && list_all is_name_byte cs
