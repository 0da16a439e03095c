-- What a text is read as: its lines that have tokens, or its first fault.
use Rattle.std.specs.Prelude.{◌≡◌, ℕ, ◌+◌, List, [], ◌∷◌, length, map, Option, Some, None, ◌==◌, if◌then◌else◌}
use Rattle.std.specs.List.{slice_range}
use Rattle.plain_decode.specs.declared.text.Line.{Line}
use Rattle.text_faults.specs.declared.board_line.LineFault.{LineFault}
use Rattle.text_faults.specs.declared.at_line.AtLine.{AtLine}
use Rattle.text_faults.specs.declared.or_no_memory.OrNoMemory.{OrNoMemory}
use Rattle.text_faults.specs.declared.or_no_memory.OrNoMemory.TheVariants.{Fault, NoMemory}
use Rattle.board_text.specs.declared.tokens.Token.{Token}
use Rattle.board_text.specs.Lines.{line_fault}
use Rattle.board_text.specs.Tokens.{tokens_of, words_of}

-- a line before those that follow, unless it has no token
abbrev pub with_line : ℕ → List Token → List Line → List Line
with_line count found more = if length found == 0 then more else record { number = count; tokens = found } ∷ more

-- the lines that have tokens, where the first line has this number and begins at this place: each
-- counts, and a newline stands behind it
abbrev pub token_lines : ℕ → ℕ → List (List ℕ) → List Line
token_lines count from [] = []
token_lines count from (line ∷ lines) =
    with_line count (tokens_of from line) (token_lines (count + 1) (from + length line + 1) lines)

-- the number of a line, and the slices of the text at its tokens
abbrev pub slices_of : List ℕ → Line → ℕ × List (List ℕ)
slices_of text line = (line.number, map (λ token. slice_range text token.start token.end) line.tokens)

-- the words of a line before those of the lines that follow, unless it has none
abbrev pub with_words : ℕ → List (List ℕ) → List (ℕ × List (List ℕ)) → List (ℕ × List (List ℕ))
with_words count words more = if length words == 0 then more else (count, words) ∷ more

-- the number and the words of each line that has some, where the first line has this number
abbrev pub word_lines : ℕ → List (List ℕ) → List (ℕ × List (List ℕ))
word_lines count [] = []
word_lines count (line ∷ lines) = with_words count (words_of line) (word_lines (count + 1) lines)

-- the fault of the line of this number, if it has one, and else that of a later line
abbrev pub fault_or : ℕ → Option LineFault → Option (ℕ × LineFault) → Option (ℕ × LineFault)
fault_or number None later = later
fault_or number (Some fault) later = Some (number, fault)

-- the first line with a fault, by its number, and its fault, where the first line has this number
abbrev pub first_fault : ℕ → List (List ℕ) → Option (ℕ × LineFault)
first_fault number [] = None
first_fault number (line ∷ lines) = fault_or number (line_fault line) (first_fault (number + 1) lines)

-- a refusal is the first fault of the lines, or is for want of memory
abbrev pub IsFirstFault : List (List ℕ) → OrNoMemory (AtLine LineFault) → Type 0
IsFirstFault lines (Fault found) = first_fault 1 lines ≡ Some (found.line, found.fault)
IsFirstFault lines NoMemory = Unit {0}
