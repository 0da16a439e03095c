-- Words that can be printed and read again.
use Rattle.std.specs.Prelude.{ℕ, Bool, List, [], ◌∷◌, ◌++◌, length, not, nat_lt, nat_le, ◌==◌, ◌&&◌}
use Rattle.std.specs.List.{list_all}
use Rattle.board_printer.specs.Lines.{Line, spaced}

-- a printing character other than the space and `#`
abbrev pub is_word_byte : ℕ → Bool
is_word_byte byte = nat_le 33 byte && (nat_le byte 126 && not (byte == 35))

-- one byte or more, each such a character
abbrev pub is_word : List ℕ → Bool
is_word word = nat_lt 0 (length word) && list_all is_word_byte word

-- a line of such words
abbrev pub has_words_alone : Line → Bool
has_words_alone words = list_all is_word words

-- the words of a line with single spaces between them: its text without the newline
abbrev pub joined : Line → List ℕ
joined [] = []
joined (word ∷ words) = word ++ spaced words []
