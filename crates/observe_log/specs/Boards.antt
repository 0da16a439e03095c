-- The board part of a log: a board text without operations, whose targets neither stall nor disconnect.
use Rattle.std.specs.Prelude.{ℕ, Bool, true, false, ◌+◌, List, [], ◌∷◌, Option, Some, None, is_none, Result, Ok, Err, ◌==◌, ◌&&◌, ◌||◌, nat_lt, codes, if◌then◌else◌}
use Rattle.std.specs.Str.{bytes_eq}
use Rattle.board_model.specs.declared.board.Board.{Board}
use Rattle.board_text.specs.Lines.{line_fault}
use Rattle.board_text.specs.Tokens.{words_of}
use Rattle.text_faults.specs.declared.board_line.LineFault.{LineFault}
use Rattle.text_faults.specs.declared.board_line.LineFault.TheVariants.{NoFirstLine, WrongWord}
use Rattle.board_parser.specs.Boards.{read_lines, ended}

-- the line has only bytes that a line may have, and no more of them than it may have
abbrev pub is_readable : List ℕ → Bool
is_readable line = is_none (line_fault line)

-- an operation of a master
abbrev pub is_operation : List ℕ → Bool
is_operation word =
    bytes_eq word (codes "mr") || bytes_eq word (codes "mrl") || bytes_eq word (codes "mrm") || bytes_eq word (codes "ior")
    || bytes_eq word (codes "mw") || bytes_eq word (codes "mwi") || bytes_eq word (codes "iow") || bytes_eq word (codes "cfr")
    || bytes_eq word (codes "cfw") || bytes_eq word (codes "poll") || bytes_eq word (codes "iopoll")
    || bytes_eq word (codes "pollnot") || bytes_eq word (codes "iopollnot")

-- a line of a board text that no log has: an operation, how a target stalls or disconnects, and what is thrown away
abbrev pub is_left_out : List ℕ → Bool
is_left_out word =
    is_operation word || bytes_eq word (codes "stall") || bytes_eq word (codes "burst")
    || bytes_eq word (codes "discard") || bytes_eq word (codes "drop")

-- such a line begins with such a word
abbrev pub begins_left_out : List (List ℕ) → Bool
begins_left_out [] = false
begins_left_out (word ∷ words) = is_left_out word

-- a line that can be read and begins so
abbrev pub is_refused : List ℕ → Bool
is_refused line = is_readable line && begins_left_out (words_of line)

-- the number of the first such line, where the first of the lines has this number
abbrev pub first_refused : ℕ → List (List ℕ) → Option ℕ
first_refused number [] = None
first_refused number (line ∷ lines) = if is_refused line then Some number else first_refused (number + 1) lines

-- a text that does not begin as a board is said to be none, whatever stands there
abbrev pub is_no_board : LineFault → Bool
is_no_board NoFirstLine = true
is_no_board other = false

-- a fault of a line stands before that line is refused
abbrev pub stands_before : ℕ × LineFault → ℕ → Bool
stands_before fault at = nat_lt fault.0 at || (fault.0 == at && is_no_board fault.1)

-- the first of both
abbrev pub refused_at : ℕ → Result Board (ℕ × LineFault) → Result Board (ℕ × LineFault)
refused_at at (Ok board) = Err (at, WrongWord)
refused_at at (Err fault) = if stands_before fault at then Err fault else Err (at, WrongWord)

-- where there is such a line
abbrev pub unless_refused : Option ℕ → Result Board (ℕ × LineFault) → Result Board (ℕ × LineFault)
unless_refused None read = read
unless_refused (Some at) read = refused_at at read

-- the board of these lines, or their first fault with the number of its line: those of a board text, and P2 at a line that no
-- log has
abbrev pub board_in : List (List ℕ) → Result Board (ℕ × LineFault)
board_in lines = unless_refused (first_refused 1 lines) (ended (read_lines None 1 lines))
