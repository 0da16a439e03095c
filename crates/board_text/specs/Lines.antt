-- A text is lines, and what a line may be.
use Rattle.std.specs.Prelude.{ℕ, Bool, List, [], ◌∷◌, length, Option, Some, None, nat_lt, nat_le, ◌==◌, ◌&&◌, ◌||◌, if◌then◌else◌}
use Rattle.std.specs.List.{list_all, slice_split}
use Rattle.board_text.specs.Tokens.{uncommented, comment_of}
use Rattle.text_faults.specs.declared.board_line.LineFault.{LineFault}
use Rattle.text_faults.specs.declared.board_line.LineFault.TheVariants.{TooLong, BadByte}

-- the byte 10, with which a line ends
abbrev pub is_newline : ℕ → Bool
is_newline byte = byte == 10

-- without a last piece that is empty: no line begins behind the last newline
abbrev pub without_empty_end : List (List ℕ) → List (List ℕ)
without_empty_end [] = []
without_empty_end (piece ∷ []) = if length piece == 0 then [] else piece ∷ []
without_empty_end (piece ∷ next ∷ pieces) = piece ∷ without_empty_end (next ∷ pieces)

-- the lines of a text, each without its newline, which the last may lack
abbrev pub lines_of : List ℕ → List (List ℕ)
lines_of text = without_empty_end (slice_split is_newline text)

-- the bytes that a line may have before its comment: the tab and the printing characters of ASCII
abbrev pub is_allowed : ℕ → Bool
is_allowed byte = byte == 9 || (nat_le 32 byte && nat_le byte 126)

-- those that its comment may have: all from 80 to ff too
abbrev pub is_allowed_comment : ℕ → Bool
is_allowed_comment byte = is_allowed byte || nat_le 128 byte

-- each byte of the line may stand where it stands
abbrev pub is_line_of : List ℕ → Bool
is_line_of line = list_all is_allowed (uncommented line) && list_all is_allowed_comment (comment_of line)

-- a line longer than 256 bytes is too long; else one with a byte that may not stand there is bad for it
abbrev pub line_fault : List ℕ → Option LineFault
line_fault line = if nat_lt 256 (length line) then Some TooLong else if is_line_of line then None else Some BadByte
