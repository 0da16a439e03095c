-- What a log text is read as: a board and what was seen on its buses, or the first fault with the number of its line.
use Rattle.std.specs.Prelude.{◌≡◌, ℕ, Bool, false, ◌+◌, List, [], ◌∷◌, length, Option, Some, None, Result, Ok, Err, not, ◌==◌, ◌&&◌, nat_lt, codes, if◌then◌else◌}
use Rattle.std.specs.List.{list_any}
use Rattle.std.specs.Str.{bytes_eq}
use Rattle.board_model.specs.declared.board.Board.{Board}
use Rattle.board_text.specs.Lines.{lines_of}
use Rattle.board_text.specs.Tokens.{words_of}
use Rattle.text_faults.specs.declared.board_line.LineFault.{LineFault as BoardFault}
use Rattle.text_faults.specs.declared.log_line.LogLineFault.{LogLineFault}
use Rattle.text_faults.specs.declared.log_line.LogLineFault.TheVariants.{NoFirstLine, NoLogLine, NoEndLine, Misread}
use Rattle.text_faults.specs.declared.or_no_memory.OrNoMemory.{OrNoMemory}
use Rattle.text_faults.specs.declared.or_no_memory.OrNoMemory.TheVariants.{Fault, NoMemory}
use Rattle.observe_log.specs.declared.fault.AtWord.{AtWord}
use Rattle.observe_log.specs.declared.fault.LogFault.{LogFault}
use Rattle.observe_log.specs.declared.fault.LogFault.TheVariants.{Log as OfLog, Board as OfBoard}
use Rattle.observe_told.specs.declared.seen.Log.{Log}
use Rattle.observe_log.specs.Boards.{is_readable, board_in}
use Rattle.observe_log.specs.Lines.{Read, nothing_read, line_read}

-- a fault of a whole line
abbrev pub of_line : ℕ → LogLineFault → LogFault
of_line number fault = OfLog number 0 fault

-- Lines behind `log`, up to the `end` line.

-- these words alone
abbrev pub is_word_alone : List ℕ → List (List ℕ) → Bool
is_word_alone expected [] = false
is_word_alone expected (word ∷ []) = bytes_eq word expected
is_word_alone expected (word ∷ next ∷ words) = false

-- the line has words, which are no comment
abbrev pub has_words : List ℕ → Bool
has_words line = nat_lt 0 (length (words_of line))

-- the last line with words, and it is `end`
abbrev pub is_last : List ℕ → List (List ℕ) → Bool
is_last line lines = is_word_alone (codes "end") (words_of line) && not (list_any has_words lines)

-- behind it each line can be read
abbrev pub behind_end : ℕ → Read → List (List ℕ) → Result Read LogFault
behind_end number read [] = Ok read
behind_end number read (line ∷ lines) =
    if is_readable line then behind_end (number + 1) read lines else Err (of_line number Misread)

-- a fault of a line is told with its number
abbrev pub at_line : ℕ → Result Read AtWord → Result Read LogFault
at_line number (Ok read) = Ok read
at_line number (Err fault) = Err (OfLog number fault.word fault.fault)

-- the words of one line behind what was read before: a transaction, or none
abbrev pub words_line : Board → ℕ → Read → List (List ℕ) → Result Read LogFault
words_line board number so_far words =
    if length words == 0 then Ok so_far else at_line number (line_read board number so_far words)

-- one line behind what was read before
abbrev pub one_line : Board → ℕ → Read → List ℕ → Result Read LogFault
one_line board number so_far line = words_line board number so_far (words_of line)

-- the lines behind one that was read
abbrev pub then_lines : (Read → Result Read LogFault) → Result Read LogFault → Result Read LogFault
then_lines later (Ok read) = later read
then_lines later (Err fault) = Err fault

-- a line that can be read: the `end` line, or one with lines behind it
abbrev pub by_line : (Read → Result Read LogFault) → Board → ℕ → Read → List ℕ → List (List ℕ) → Result Read LogFault
by_line later board number so_far line lines =
    if is_last line lines then behind_end (number + 1) so_far lines else then_lines later (one_line board number so_far line)

-- what is read of these lines behind what was read before, where the first line has this number
abbrev pub lines_read : Board → ℕ → Read → List (List ℕ) → Result Read LogFault
lines_read board number so_far [] = Err (of_line number NoEndLine)
lines_read board number so_far (line ∷ lines) =
    if is_readable line
    then by_line (λ more. lines_read board (number + 1) more lines) board number so_far line lines
    else Err (of_line number Misread)

-- The board, before the first line that is `log`.

-- the line `log`
abbrev pub is_log_line : List ℕ → Bool
is_log_line line = is_readable line && is_word_alone (codes "log") (words_of line)

-- one line more before the parts of those behind it
abbrev pub with_before : List ℕ → Option (List (List ℕ) × List (List ℕ)) → Option (List (List ℕ) × List (List ℕ))
with_before line None = None
with_before line (Some parts) = Some (line ∷ parts.0, parts.1)

-- the lines before it, and those behind it
abbrev pub until_log : List (List ℕ) → Option (List (List ℕ) × List (List ℕ))
until_log [] = None
until_log (line ∷ lines) = if is_log_line line then Some ([], lines) else with_before line (until_log lines)

-- the board with what was seen on it
abbrev pub with_read : Board → Result Read LogFault → Result Log LogFault
with_read board (Ok read) = Ok (record { board = board; lines = read.lines; phases = read.phases })
with_read board (Err fault) = Err fault

-- a fault of the board is told with its line in the whole text
abbrev pub by_board : ℕ → List (List ℕ) → Result Board (ℕ × BoardFault) → Result Log LogFault
by_board number lines (Ok board) = with_read board (lines_read board number nothing_read lines)
by_board number lines (Err fault) = Err (OfBoard (fault.0 + 1) fault.1)

-- by the lines before `log` and those behind it
abbrev pub by_parts : ℕ → Option (List (List ℕ) × List (List ℕ)) → Result Log LogFault
by_parts past None = Err (of_line past NoLogLine)
by_parts past (Some parts) = by_board (length parts.0 + 3) parts.1 (board_in parts.0)

-- the words `pcilog 1`
abbrev pub are_first_words : List (List ℕ) → Bool
are_first_words [] = false
are_first_words (word ∷ []) = false
are_first_words (word ∷ version ∷ []) = bytes_eq word (codes "pcilog") && bytes_eq version (codes "1")
are_first_words (word ∷ version ∷ next ∷ words) = false

-- the line `pcilog 1`
abbrev pub is_first_line : List ℕ → Bool
is_first_line line = is_readable line && are_first_words (words_of line)

-- the first line is `pcilog 1`
abbrev pub by_first : List (List ℕ) → Result Log LogFault
by_first [] = Err (of_line 1 NoFirstLine)
by_first (line ∷ lines) =
    if is_first_line line then by_parts (length lines + 2) (until_log lines) else Err (of_line 1 NoFirstLine)

-- the log of a text, or its first fault
abbrev pub log_read : List ℕ → Result Log LogFault
log_read text = by_first (lines_of text)

-- an answer is the board of what the text reads as, or its first fault, which may also stand behind the board; unless there was
-- no memory
abbrev pub TellsBoardOf : Result Board (OrNoMemory LogFault) → Result Log LogFault → Type 0
TellsBoardOf (Ok board) (Ok log) = board ≡ log.board
TellsBoardOf (Ok board) (Err fault) = Unit {0}
TellsBoardOf (Err (Fault fault)) reading = reading ≡ Err fault
TellsBoardOf (Err NoMemory) reading = Unit {0}

-- an answer is what the text reads as, unless there was no memory
abbrev pub Tells : {A : Type 0} → Result A (OrNoMemory LogFault) → Result A LogFault → Type 0
Tells (Ok value) reading = reading ≡ Ok value
Tells (Err (Fault fault)) reading = reading ≡ Err fault
Tells (Err NoMemory) reading = Unit {0}
