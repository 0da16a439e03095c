-- A text is lines, and a line is words.
use Rattle.std.specs.Prelude.{ℕ, List, [], ◌∷◌, ◌++◌}
use Rattle.std.specs.List.{flat_map}

-- the words of a line, each in its bytes
abbrev pub Line : Type 0
Line = List (List ℕ)

-- a space and a word for each word, and then the rest
abbrev pub spaced : Line → List ℕ → List ℕ
spaced [] rest = rest
spaced (word ∷ words) rest = 32 ∷ (word ++ spaced words rest)

-- the words with single spaces between them, and a newline
abbrev pub line_text : Line → List ℕ
line_text [] = 10 ∷ []
line_text (word ∷ words) = word ++ spaced words (10 ∷ [])

-- the lines, one after another
abbrev pub text_of : List Line → List ℕ
text_of lines = flat_map line_text lines
