-- How it is said whether masters are apart.
use Rattle.std.specs.Prelude.{ℕ, Bool, true, false, List, [], ◌∷◌, codes}
use Rattle.board_printer.specs.Lines.{Line}

-- a test, as a word
abbrev pub yes_or_no : Bool → List ℕ
yes_or_no true = codes "yes"
yes_or_no false = codes "no"

-- `apart yes` or `apart no`
abbrev pub apart_line : Bool → Line
apart_line apart = codes "apart" ∷ yes_or_no apart ∷ []
