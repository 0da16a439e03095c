-- The tokens of a line, as places in the text.
use Rattle.std.specs.Prelude.{◌≡◌, ℕ, Bool, not, ◌+◌, ◌-◌, ◌<◌, ◌≤◌, List, [], ◌∷◌, length, drop, nat_lt, ◌==◌, ◌||◌, if◌then◌else◌}
use Rattle.std.specs.List.{slice_split, slice_range, before_first, filter, position_or_len}
use Rattle.board_text.specs.declared.tokens.Token.{Token}

-- a space or a tab
abbrev pub is_separator : ℕ → Bool
is_separator byte = byte == 32 || byte == 9

-- any byte but a space and a tab
abbrev pub is_no_separator : ℕ → Bool
is_no_separator byte = not (is_separator byte)

-- `#`, which with all behind it is a comment
abbrev pub is_comment : ℕ → Bool
is_comment byte = byte == 35

-- a line up to its comment
abbrev pub uncommented : List ℕ → List ℕ
uncommented line = before_first is_comment line

-- the comment of a line, from its `#` on
abbrev pub comment_of : List ℕ → List ℕ
comment_of line = drop (position_or_len is_comment line) line

-- a token of this many bytes before those that follow, unless it is empty
abbrev pub with_token : ℕ → ℕ → List Token → List Token
with_token from size more = if size == 0 then more else record { start = from; end = from + size } ∷ more

-- the pieces that are not empty, where the first begins at this place and one byte stands between
-- each two
abbrev pub placed : ℕ → List (List ℕ) → List Token
placed from [] = []
placed from (piece ∷ pieces) = with_token from (length piece) (placed (from + length piece + 1) pieces)

-- the tokens of a line that begins at this place: what stands between separators, before a comment
abbrev pub tokens_of : ℕ → List ℕ → List Token
tokens_of from line = placed from (slice_split is_separator (uncommented line))

-- the words of a text without a comment, each in its bytes: what stands between separators
abbrev pub words_in : List ℕ → List (List ℕ)
words_in text = filter (λ piece. nat_lt 0 (length piece)) (slice_split is_separator text)

-- the words of a line: what its tokens stand for
abbrev pub words_of : List ℕ → List (List ℕ)
words_of line = words_in (uncommented line)

-- wherever a text begins, this word is its first token, and the other tokens are those of what is behind the word
abbrev pub IsFirstToken : List ℕ → List ℕ → List ℕ → Type 0
IsFirstToken text word behind =
    (from : ℕ) → placed from (slice_split is_separator text)
    ≡ record { start = from + (length text - length behind - length word); end = from + (length text - length behind) }
    ∷ placed (from + (length text - length behind)) (slice_split is_separator behind)

-- the slice at a token of a line that begins at this place
abbrev pub slice_at : ℕ → List ℕ → Token → List ℕ
slice_at from line token = slice_range line (token.start - from) (token.end - from)

-- a token has a byte or more, and lies between these places
abbrev pub IsWithin : ℕ → ℕ → Token → Type 0
IsWithin low high token = (low ≤ token.start) × (token.start < token.end) × (token.end ≤ high)
