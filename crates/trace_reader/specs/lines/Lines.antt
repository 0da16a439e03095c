-- A line behind `events`: an event, the end, or its first fault.
use Rattle.std.specs.Prelude.{ℕ, Bool, false, List, [], ◌∷◌, length, Option, Some, None, Result, Ok, Err, not, nat_lt, nat_le, ◌==◌, ◌&&◌, ◌||◌, codes, if◌then◌else◌}
use Rattle.std.specs.List.{list_all, slice_split}
use Rattle.std.specs.Str.{bytes_eq}
use Rattle.board_model.specs.declared.board.Board.{Board}
use Rattle.history_model.specs.declared.event.Event.{Event}
use Rattle.trace_reader.specs.declared.lines.kind.EventWord.{EventWord}
use Rattle.trace_reader.specs.declared.lines.line.TraceLine.{TraceLine}
use Rattle.trace_reader.specs.declared.lines.line.TraceLine.TheVariants.{Happens, Ends}
use Rattle.text_faults.specs.declared.trace_line.TraceLineFault.{TraceLineFault}
use Rattle.text_faults.specs.declared.trace_line.TraceLineFault.TheVariants.{Unreadable, NoKind, Misshapen, Unknown}
use Rattle.trace_reader.specs.lines.Words.{number_of}
use Rattle.trace_reader.specs.lines.Events.{kind_of, has_words_for, word_as, event_in}

-- a space
abbrev pub is_space : ℕ → Bool
is_space byte = byte == 32

-- what stands between single spaces
abbrev pub pieces_of : List ℕ → List (List ℕ)
pieces_of line = slice_split is_space line

-- a run of bytes that are no space
abbrev pub has_bytes : List ℕ → Bool
has_bytes piece = not (length piece == 0)

-- the first word of a line, behind spaces
abbrev pub first_word : List (List ℕ) → Option (List ℕ)
first_word [] = None
first_word (piece ∷ pieces) = if length piece == 0 then first_word pieces else Some piece

-- the word behind it
abbrev pub second_word : List (List ℕ) → Option (List ℕ)
second_word [] = None
second_word (piece ∷ pieces) = if length piece == 0 then second_word pieces else first_word pieces

-- a byte from 20 to 7e
abbrev pub is_printing : ℕ → Bool
is_printing byte = nat_le 32 byte && nat_le byte 126

-- longer than 256 bytes, or with a byte that does not print
abbrev pub is_unreadable : List ℕ → Bool
is_unreadable line = nat_lt 256 (length line) || not (list_all is_printing line)

-- it begins with `end` and a space
abbrev pub begins_end : List (List ℕ) → Bool
begins_end [] = false
begins_end (piece ∷ []) = false
begins_end (piece ∷ next ∷ pieces) = bytes_eq piece (codes "end")

-- single spaces alone
abbrev pub is_regular : List (List ℕ) → Bool
is_regular pieces = list_all has_bytes pieces

-- and no more words than the longest line of an event has
abbrev pub has_shape : List (List ℕ) → Bool
has_shape pieces = is_regular pieces && nat_le (length pieces) 6

-- the number of the `end` line, if it is one
abbrev pub ends_with : Option ℕ → Result TraceLine TraceLineFault
ends_with None = Err Unknown
ends_with (Some count) = Ok (Ends count)

-- `end N`
abbrev pub end_line : List (List ℕ) → Result TraceLine TraceLineFault
end_line pieces =
    if is_regular pieces && length pieces == 2 then ends_with (word_as number_of pieces 1) else Err Misshapen

-- an event, if the words name one
abbrev pub happens : Option Event → Result TraceLine TraceLineFault
happens None = Err Unknown
happens (Some event) = Ok (Happens event)

-- the event of a line of this kind, or its fault
abbrev pub event_line_by : Board → List (List ℕ) → Option EventWord → Result TraceLine TraceLineFault
event_line_by board pieces None = Err NoKind
event_line_by board pieces (Some kind) =
    if is_regular pieces && has_words_for kind pieces then happens (event_in board kind pieces) else Err Misshapen

-- the second word tells the kind
abbrev pub kind_by : Option (List ℕ) → Option EventWord
kind_by None = None
kind_by (Some word) = kind_of word

-- a line by its pieces: the end, or an event
abbrev pub pieces_line : Board → List (List ℕ) → Result TraceLine TraceLineFault
pieces_line board pieces =
    if begins_end pieces then end_line pieces else event_line_by board pieces (kind_by (second_word pieces))

-- a line, without its newline
abbrev pub line_of : Board → List ℕ → Result TraceLine TraceLineFault
line_of board line = if is_unreadable line then Err Unreadable else pieces_line board (pieces_of line)
