-- Where the parts of a trace text stand in its bytes.
use Rattle.std.specs.Prelude.{◌≡◌, ℕ, ◌+◌, ◌≤◌, ◌∷◌, List, length, drop, Some, None, Result, Ok, Err, codes}
use Rattle.std.specs.List.{slice_range}
use Rattle.board_model.specs.declared.board.Board.{Board}
use Rattle.board_text.specs.Lines.{lines_of}
use Rattle.text_faults.specs.declared.board_line.LineFault.{LineFault}
use Rattle.trace_reader.specs.declared.fault.TraceFault.{TraceFault}
use Rattle.trace_reader.specs.declared.fault.TraceFault.TheVariants.{Trace, Board as OfBoard}
use Rattle.text_faults.specs.declared.or_no_memory.OrNoMemory.{OrNoMemory}
use Rattle.text_faults.specs.declared.or_no_memory.OrNoMemory.TheVariants.{Fault, NoMemory}
use Rattle.text_faults.specs.declared.trace_line.TraceLineFault.TheVariants.{NoEventsLine}
use Rattle.trace_reader.specs.declared.parts.EventsLine.{EventsLine}
use Rattle.trace_reader.specs.Traces.{until_events}

-- behind the first line, which is `pcitrace 1`, the second begins here
abbrev pub StartsBehind : List ℕ → ℕ → Type 0
StartsBehind text at = lines_of text ≡ codes "pcitrace 1" ∷ lines_of (drop at text)

-- the first line `events` from a place on, at which the second line of the text begins
pub record Finds (text : List ℕ) (from : ℕ) (found : EventsLine) : Type 0 where
  pub parts : until_events (lines_of (drop from text)) ≡ Some (lines_of (slice_range text from found.start), lines_of (drop found.behind text))
  pub number : found.number ≡ length (lines_of (slice_range text from found.start)) + 3
  pub from_start : from ≤ found.start
  pub start_within : found.start ≤ length text
  pub behind_within : found.behind ≤ length text + 1
  pub small : found.number ≤ found.behind + 1

-- there is none; the fault is told one line past the last
abbrev pub IsWithout : List ℕ → ℕ → TraceFault → Type 0
IsWithout text from fault =
    (until_events (lines_of (drop from text)) ≡ None) × (fault ≡ Trace (length (lines_of (drop from text)) + 2) NoEventsLine)

-- the board of a part that begins at the second line of the text
abbrev pub TellsBoard : Result Board (OrNoMemory TraceFault) → Result Board (ℕ × LineFault) → Type 0
TellsBoard (Ok board) reading = reading ≡ Ok board
TellsBoard (Err (Fault (OfBoard line fault))) reading = (at : ℕ) × (reading ≡ Err (at, fault)) × (line ≡ at + 1)
TellsBoard (Err (Fault (Trace line fault))) reading = ⊥
TellsBoard (Err NoMemory) reading = Unit {0}
