-- The first line of a text, found and cut in one pass.
use Rattle.std.specs.Prelude.{◌≡◌, ℕ, ◌∷◌, ◌++◌, Bool, true, List, not, nat_le, ◌&&◌}
use Rattle.std.specs.List.{list_all, before_first}
use Rattle.board_text.specs.Lines.{is_newline}
use Rattle.trace_reader.specs.lines.Lines.{has_bytes}

-- the first line, without its newline
abbrev pub first_line : List ℕ → List ℕ
first_line text = before_first is_newline text

-- a printing byte that is no space
abbrev pub in_word : ℕ → Bool
in_word byte = nat_le 33 byte && nat_le byte 126

-- a byte that ends a word: a space, a newline, or one that no line may have
abbrev pub ends_word : ℕ → Bool
ends_word byte = not (in_word byte)

-- the text begins with this word, which has bytes, and the byte that ends it; this stands behind it
pub record BeginsWith (text word : List ℕ) (stop : ℕ) (behind : List ℕ) : Type 0 where
  pub whole : text ≡ word ++ stop ∷ behind
  pub printing : list_all in_word word ≡ true
  pub filled : has_bytes word ≡ true
