-- The words that the program may be called with first.
use Rattle.std.specs.Prelude.{ℕ, Bool, false, List, [], ◌∷◌}
use Rattle.std.specs.Str.{bytes_eq}
use Rattle.program_words.specs.Shapes.Shape.{Word}
use Rattle.program_words.specs.declared.help.own.OwnWord.{OwnWord}
use Rattle.program_words.specs.Shapes.{Shape}

-- a form of words begins with just this word
abbrev pub begins : List ℕ → List Shape → Bool
begins word [] = false
begins word (Word text ∷ parts) = bytes_eq text word
begins word (_ ∷ parts) = false

-- it is this word, which the program answers of itself
abbrev pub is_own : List ℕ → OwnWord → Bool
is_own word own = bytes_eq own.word.now word
