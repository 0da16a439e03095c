-- Where the parts of a log text stand in its bytes.
use Rattle.std.specs.Prelude.{◌≡◌, ℕ, ◌+◌, ◌≤◌, ◌∷◌, true, List, length, drop, Some, None, Result, Ok, Err}
use Rattle.std.specs.List.{slice_range}
use Rattle.board_model.specs.declared.board.Board.{Board}
use Rattle.board_text.specs.Lines.{lines_of}
use Rattle.text_faults.specs.declared.board_line.LineFault.{LineFault}
use Rattle.text_faults.specs.declared.log_line.LogLineFault.TheVariants.{NoLogLine}
use Rattle.text_faults.specs.declared.or_no_memory.OrNoMemory.{OrNoMemory}
use Rattle.text_faults.specs.declared.or_no_memory.OrNoMemory.TheVariants.{Fault, NoMemory}
use Rattle.observe_log.specs.declared.fault.LogFault.{LogFault}
use Rattle.observe_log.specs.declared.fault.LogFault.TheVariants.{Log as OfLog, Board as OfBoard}
use Rattle.observe_log.specs.declared.parts.LogLine.{LogLine}
use Rattle.observe_log.specs.Logs.{of_line, until_log, is_first_line}

-- behind the first line, which is `pcilog 1`, the second begins here
pub record StartsBehind (text : List ℕ) (at : ℕ) : Type 0 where
  pub first : List ℕ
  pub is_first : is_first_line first ≡ true
  pub lines : lines_of text ≡ first ∷ lines_of (drop at text)
  pub within : at ≤ length text + 1

-- the first line `log` from a place on, at which the second line of the text begins
pub record Finds (text : List ℕ) (from : ℕ) (found : LogLine) : Type 0 where
  pub parts : until_log (lines_of (drop from text)) ≡ Some (lines_of (slice_range text from found.start), lines_of (drop found.behind text))
  pub number : found.number ≡ length (lines_of (slice_range text from found.start)) + 3
  pub from_start : from ≤ found.start
  pub start_within : found.start ≤ length text
  pub behind_within : found.behind ≤ length text + 1
  pub small : found.number ≤ found.behind + 1

-- there is none; the fault is told one line past the last
abbrev pub IsWithout : List ℕ → ℕ → LogFault → Type 0
IsWithout text from fault =
    (until_log (lines_of (drop from text)) ≡ None) × (fault ≡ of_line (length (lines_of (drop from text)) + 2) NoLogLine)

-- the board of a part that begins at the second line of the text
abbrev pub TellsBoard : Result Board (OrNoMemory LogFault) → Result Board (ℕ × LineFault) → Type 0
TellsBoard (Ok board) reading = reading ≡ Ok board
TellsBoard (Err (Fault (OfBoard line fault))) reading = (at : ℕ) × (reading ≡ Err (at, fault)) × (line ≡ at + 1)
TellsBoard (Err (Fault (OfLog line word fault))) reading = ⊥
TellsBoard (Err NoMemory) reading = Unit {0}
