-- What a trace text is read as: a board and events, or the first fault with the number of its line.
use Rattle.std.specs.Prelude.{◌≡◌, ℕ, ◌+◌, List, [], ◌∷◌, ◌++◌, length, Option, Some, None, Result, Ok, Err, ◌==◌, codes, if◌then◌else◌}
use Rattle.std.specs.Str.{bytes_eq}
use Rattle.board_model.specs.declared.board.Board.{Board}
use Rattle.history_model.specs.declared.event.Event.{Event}
use Rattle.board_text.specs.Lines.{lines_of}
use Rattle.text_faults.specs.declared.board_line.LineFault.{LineFault as BoardFault}
use Rattle.board_parser.specs.Boards.{read_lines, ended}
use Rattle.trace_reader.specs.declared.lines.line.TraceLine.{TraceLine}
use Rattle.trace_reader.specs.declared.lines.line.TraceLine.TheVariants.{Happens, Ends}
use Rattle.trace_reader.specs.lines.Lines.{line_of}
use Rattle.text_faults.specs.declared.trace_line.TraceLineFault.{TraceLineFault}
use Rattle.text_faults.specs.declared.trace_line.TraceLineFault.TheVariants.{NoFirstLine, NoEventsLine, WrongCount, BehindEnd}
use Rattle.trace_reader.specs.declared.fault.TraceFault.{TraceFault}
use Rattle.trace_reader.specs.declared.fault.TraceFault.TheVariants.{Trace, Board as OfBoard}
use Rattle.text_faults.specs.declared.or_no_memory.OrNoMemory.{OrNoMemory}
use Rattle.text_faults.specs.declared.or_no_memory.OrNoMemory.TheVariants.{Fault, NoMemory}

-- Events, up to the `end` line.

-- behind the `end` line nothing stands
abbrev pub nothing_behind : ℕ → List Event → List (List ℕ) → Result (List Event) TraceFault
nothing_behind number events [] = Ok events
nothing_behind number events (line ∷ lines) = Err (Trace number BehindEnd)

-- the number on the `end` line is that of the events
abbrev pub at_end : ℕ → List Event → ℕ → List (List ℕ) → Result (List Event) TraceFault
at_end number events count lines =
    if count == length events then nothing_behind (number + 1) events lines else Err (Trace number WrongCount)

-- the events of these lines behind those before, where the first line has this number
abbrev pub events_by : (List Event → Result (List Event) TraceFault) → ℕ → List Event → List (List ℕ)
    → Result TraceLine TraceLineFault → Result (List Event) TraceFault
events_by later number events lines (Ok (Happens event)) = later (events ++ event ∷ [])
events_by later number events lines (Ok (Ends count)) = at_end number events count lines
events_by later number events lines (Err fault) = Err (Trace number fault)

-- the events of these lines, one after another
abbrev pub events_read : Board → ℕ → List Event → List (List ℕ) → Result (List Event) TraceFault
events_read board number events [] = Err (Trace number WrongCount)
events_read board number events (line ∷ lines) =
    events_by (λ more. events_read board (number + 1) more lines) number events lines (line_of board line)

-- The board, before the first line that is `events`.

-- one line more before it
abbrev pub with_before : List ℕ → Option (List (List ℕ) × List (List ℕ)) → Option (List (List ℕ) × List (List ℕ))
with_before line None = None
with_before line (Some parts) = Some (line ∷ parts.0, parts.1)

-- the lines before it, and those behind it
abbrev pub until_events : List (List ℕ) → Option (List (List ℕ) × List (List ℕ))
until_events [] = None
until_events (line ∷ lines) =
    if bytes_eq line (codes "events") then Some ([], lines) else with_before line (until_events lines)

-- the board with its events, or their fault
abbrev pub with_events : Board → Result (List Event) TraceFault → Result (Board × List Event) TraceFault
with_events board (Ok events) = Ok (board, events)
with_events board (Err fault) = Err fault

-- a fault of the board is told with its line in the whole file
abbrev pub by_board : ℕ → List (List ℕ) → Result Board (ℕ × BoardFault) → Result (Board × List Event) TraceFault
by_board number lines (Ok board) = with_events board (events_read board number [] lines)
by_board number lines (Err fault) = Err (OfBoard (fault.0 + 1) fault.1)

-- the board and events of the lines that were parted; a missing `events` line is told behind the last
abbrev pub by_parts : ℕ → Option (List (List ℕ) × List (List ℕ)) → Result (Board × List Event) TraceFault
by_parts past None = Err (Trace past NoEventsLine)
by_parts past (Some parts) = by_board (length parts.0 + 3) parts.1 (ended (read_lines None 1 parts.0))

-- the first line is `pcitrace 1`
abbrev pub by_first : List (List ℕ) → Result (Board × List Event) TraceFault
by_first [] = Err (Trace 1 NoFirstLine)
by_first (line ∷ lines) =
    if bytes_eq line (codes "pcitrace 1") then by_parts (length lines + 2) (until_events lines) else Err (Trace 1 NoFirstLine)

-- the board and the events of a text, or its first fault
abbrev pub trace_read : List ℕ → Result (Board × List Event) TraceFault
trace_read text = by_first (lines_of text)

-- an answer is what the text reads as, unless there was no memory
abbrev pub Tells : {A : Type 0} → Result A (OrNoMemory TraceFault) → Result A TraceFault → Type 0
Tells (Ok value) reading = reading ≡ Ok value
Tells (Err (Fault fault)) reading = reading ≡ Err fault
Tells (Err NoMemory) reading = Unit {0}
