-- What a board text is read as: a board, or its first fault with the number of its line.
use Rattle.std.specs.Prelude.{◌≡◌, ◌≤◌, ℕ, ◌+◌, List, [], ◌∷◌, Option, Some, None, Result, Ok, Err}
use Rattle.board_model.specs.declared.board.Board.{Board}
use Rattle.board_text.specs.Lines.{lines_of}
use Rattle.text_faults.specs.declared.board_line.LineFault.{LineFault}
use Rattle.text_faults.specs.declared.board_line.LineFault.TheVariants.{NoFirstLine}
use Rattle.text_faults.specs.declared.at_line.AtLine.{AtLine}
use Rattle.text_faults.specs.declared.or_no_memory.OrNoMemory.{OrNoMemory}
use Rattle.text_faults.specs.declared.or_no_memory.OrNoMemory.TheVariants.{Fault, NoMemory}
use Rattle.board_parser.specs.declared.draft.draft.Draft.{Draft}
use Rattle.board_parser.specs.draft.Drafts.{board_of}
use Rattle.board_parser.specs.OneLine.{read_line}

-- the lines behind the line of this number, unless that line has a fault
abbrev pub then_lines : ℕ → Result (Option Draft) LineFault → (Option Draft → Result (Option Draft) (ℕ × LineFault)) → Result (Option Draft) (ℕ × LineFault)
then_lines number (Ok draft) later = later draft
then_lines number (Err fault) later = Err (number, fault)

-- line by line, where the first of the lines has this number: the first with a fault decides
abbrev pub read_lines : Option Draft → ℕ → List (List ℕ) → Result (Option Draft) (ℕ × LineFault)
read_lines draft number [] = Ok draft
read_lines draft number (line ∷ lines) =
    then_lines number (read_line draft line) (λ next. read_lines next (number + 1) lines)

-- at the end of a text: one without any word has no first line, which is told of line 1
abbrev pub ended : Result (Option Draft) (ℕ × LineFault) → Result Board (ℕ × LineFault)
ended (Ok None) = Err (1, NoFirstLine)
ended (Ok (Some draft)) = Ok (board_of draft)
ended (Err fault) = Err fault

-- the same of the draft, to which more can be added
abbrev pub sheet_ended : Result (Option Draft) (ℕ × LineFault) → Result Draft (ℕ × LineFault)
sheet_ended (Ok None) = Err (1, NoFirstLine)
sheet_ended (Ok (Some draft)) = Ok draft
sheet_ended (Err fault) = Err fault

-- the board of a text, or its first fault
abbrev pub board_read : List ℕ → Result Board (ℕ × LineFault)
board_read text = ended (read_lines None 1 (lines_of text))

-- the draft of a text, or its first fault
abbrev pub sheet_read : List ℕ → Result Draft (ℕ × LineFault)
sheet_read text = sheet_ended (read_lines None 1 (lines_of text))

-- a board or a fault is told exactly where the text reads so, unless there was no memory
abbrev pub Tells : Result Board (OrNoMemory (AtLine LineFault)) → Result Board (ℕ × LineFault) → Type 0
Tells (Ok board) reading = reading ≡ Ok board
Tells (Err (Fault found)) reading = reading ≡ Err (found.line, found.fault)
Tells (Err NoMemory) reading = Unit {0}

-- the same of a draft
abbrev pub TellsSheet : Result Draft (OrNoMemory (AtLine LineFault)) → Result Draft (ℕ × LineFault) → Type 0
TellsSheet (Ok draft) reading = reading ≡ Ok draft
TellsSheet (Err (Fault found)) reading = reading ≡ Err (found.line, found.fault)
TellsSheet (Err NoMemory) reading = Unit {0}

-- a fault is told of one of so many lines
abbrev pub IsWithin : ℕ → OrNoMemory (AtLine LineFault) → Type 0
IsWithin lines (Fault found) = found.line ≤ lines
IsWithin lines NoMemory = Unit {0}
