-- Where the parts of a device text stand in its bytes.
use Rattle.std.specs.Prelude.{◌≡◌, ℕ, ◌+◌, ◌≤◌, ◌∷◌, [], List, length, drop, Some, None, Result, Ok, Err, codes, true}
use Rattle.std.specs.List.{slice_range}
use Rattle.board_text.specs.Lines.{lines_of}
use Rattle.text_faults.specs.declared.board_line.LineFault.{LineFault}
use Rattle.board_parser.specs.declared.draft.draft.Draft.{Draft}
use Rattle.dma_agents.specs.declared.fault.MakeFault.{MakeFault}
use Rattle.dma_agents.specs.declared.fault.MakeFault.TheVariants.{Board as OfBoard, Device as OfLine, NotClear}
use Rattle.text_faults.specs.declared.or_no_memory.OrNoMemory.{OrNoMemory}
use Rattle.text_faults.specs.declared.or_no_memory.OrNoMemory.TheVariants.{Fault, NoMemory}
use Rattle.dma_agents.specs.declared.parts.DevicesLine.{DevicesLine}
use Rattle.dma_agents.specs.Made.{is_line, until_devices}

-- the text begins with this line, which is `pcidevices 1`, and the second line begins here
pub record StartsBehind (text : List ℕ) (at : ℕ) : Type 0 where
  pub line : List ℕ
  pub lines : lines_of text ≡ line ∷ lines_of (drop at text)
  pub is_mark : is_line (codes "pcidevices" ∷ codes "1" ∷ []) line ≡ true
  pub within : at ≤ length text + 1

-- the first line `devices` from a place on, at which the second line of the text begins
pub record Finds (text : List ℕ) (from : ℕ) (found : DevicesLine) : Type 0 where
  pub parts : until_devices (lines_of (drop from text)) ≡ Some (lines_of (slice_range text from found.start), lines_of (drop found.behind text))
  pub number : found.number ≡ length (lines_of (slice_range text from found.start)) + 3
  pub from_start : from ≤ found.start
  pub start_within : found.start ≤ length text
  pub behind_within : found.behind ≤ length text + 1
  pub small : found.number ≤ found.behind + 1

-- there is none, and the lines are so many up to the last
abbrev pub IsWithout : List ℕ → ℕ → ℕ → Type 0
IsWithout text from past = (until_devices (lines_of (drop from text)) ≡ None) × (past ≡ length (lines_of (drop from text)) + 2)

-- the sheet of a part that begins at the second line of the text
abbrev pub TellsSheet : Result Draft (OrNoMemory MakeFault) → Result Draft (ℕ × LineFault) → Type 0
TellsSheet (Ok draft) reading = reading ≡ Ok draft
TellsSheet (Err (Fault (OfBoard line fault))) reading = (at : ℕ) × (reading ≡ Err (at, fault)) × (line ≡ at + 1)
TellsSheet (Err (Fault (OfLine line fault))) reading = ⊥
TellsSheet (Err (Fault (NotClear line flag why))) reading = ⊥
TellsSheet (Err NoMemory) reading = Unit {0}
