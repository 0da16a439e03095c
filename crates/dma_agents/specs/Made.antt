-- The board of a device text, or its first fault.
use Rattle.std.specs.Prelude.{◌≡◌, ℕ, Bool, true, false, ◌+◌, List, [], ◌∷◌, ◌++◌, length, Option, Some, None, Result, Ok, Err, codes, not, ◌&&◌, ◌==◌, nat_lt, if◌then◌else◌}
use Rattle.std.specs.List.{list_all, find}
use Rattle.std.specs.Str.{bytes_eq}
use Rattle.board_model.specs.declared.board.Board.{Board}
use Rattle.board_text.specs.Lines.{lines_of, line_fault}
use Rattle.board_text.specs.Tokens.{words_of}
use Rattle.text_faults.specs.declared.board_line.LineFault.{LineFault}
use Rattle.text_faults.specs.declared.board_line.LineFault.TheVariants.{NoFirstLine}
use Rattle.board_parser.specs.declared.draft.draft.Draft.{Draft}
use Rattle.board_parser.specs.draft.Drafts.{board_of}
use Rattle.board_parser.specs.Boards.{read_lines}
use Rattle.history_model.specs.Clear.{is_clear}
use Rattle.text_faults.specs.declared.device.DeviceFault.{DeviceFault}
use Rattle.text_faults.specs.declared.device.DeviceFault.TheVariants.{Misshapen}
use Rattle.dma_agents.specs.declared.line.Flag.{Flag}
use Rattle.dma_agents.specs.declared.line.Waiting.{Waiting}
use Rattle.dma_agents.specs.declared.line.DeviceLine.{DeviceLine}
use Rattle.dma_agents.specs.declared.line.DeviceLine.TheVariants.{Device, Handler, Puts, Gets, Sends, Looks, Waits, Writes}
use Rattle.dma_agents.specs.declared.line.DeviceOwner.{DeviceOwner}
use Rattle.dma_agents.specs.declared.line.DeviceOwner.TheVariants.{Nobody, Device as OfDevice, Handler as OfHandler}
use Rattle.dma_agents.specs.declared.making.Making.{Making}
use Rattle.dma_agents.specs.declared.fault.MakeFault.{MakeFault}
use Rattle.dma_agents.specs.declared.fault.MakeFault.TheVariants.{Board as OfBoard, Device as OfLine, NotClear}
use Rattle.text_faults.specs.declared.or_no_memory.OrNoMemory.{OrNoMemory}
use Rattle.text_faults.specs.declared.or_no_memory.OrNoMemory.TheVariants.{Fault, NoMemory}
use Rattle.dma_agents.specs.DeviceLines.{device_line}
use Rattle.dma_agents.specs.Adding.{line_added}
use Rattle.dma_agents.specs.Unclear.{why_unclear}

-- The marks of a text.

-- the line has no fault of the text
abbrev pub is_faultless : Option LineFault → Bool
is_faultless None = true
is_faultless (Some fault) = false

-- the same words in the same order
abbrev pub same_words : List (List ℕ) → List (List ℕ) → Bool
same_words [] [] = true
same_words [] (word ∷ words) = false
same_words (word ∷ words) [] = false
same_words (word ∷ words) (expected ∷ more) = bytes_eq word expected && same_words words more

-- a line that may be read and has just these words
abbrev pub is_line : List (List ℕ) → List ℕ → Bool
is_line words line = is_faultless (line_fault line) && same_words (words_of line) words

-- The lines of devices, one after another.

-- whose operations may follow a line
abbrev pub owner_behind : DeviceOwner → DeviceLine → DeviceOwner
owner_behind owner (Device name target bell) = OfDevice
owner_behind owner (Handler name bus wait) = OfHandler
owner_behind owner (Puts put) = owner
owner_behind owner (Gets address) = owner
owner_behind owner (Sends address message) = owner
owner_behind owner (Looks address) = owner
owner_behind owner (Waits flag) = owner
owner_behind owner (Writes address value) = owner

-- the flag that a line waits for
abbrev pub flag_of : DeviceLine → Option Flag
flag_of (Device name target bell) = Some bell
flag_of (Handler name bus wait) = Some wait
flag_of (Puts put) = None
flag_of (Gets address) = None
flag_of (Sends address message) = None
flag_of (Looks address) = None
flag_of (Waits flag) = Some flag
flag_of (Writes address value) = None

-- the flags that are waited for with their lines, behind a line of this number
abbrev pub waits_behind : List Waiting → ℕ → Option Flag → List Waiting
waits_behind waits number None = waits
waits_behind waits number (Some flag) = waits ++ record { line = number; flag = flag } ∷ []

-- what is made behind a line: its board, its owner and the flags; or its fault
abbrev pub with_draft : Making → ℕ → DeviceLine → Result Draft DeviceFault → Result Making DeviceFault
with_draft making number line (Ok draft) =
    Ok (record { sheet = draft; owner = owner_behind making.owner line; waits = waits_behind making.waits number (flag_of line) })
with_draft making number line (Err fault) = Err fault

-- what the line of this number adds, by what its words say
abbrev pub by_form : Making → ℕ → Result DeviceLine LineFault → Result Making DeviceFault
by_form making number (Ok line) = with_draft making number line (line_added making.owner making.sheet line)
by_form making number (Err fault) = Err Misshapen

-- what a line by itself says, where it has words
abbrev pub form_of : Result DeviceLine LineFault → Result (Option DeviceLine) DeviceFault
form_of (Ok line) = Ok (Some line)
form_of (Err fault) = Err Misshapen

-- what a line says, nothing where it has no words; or its fault
abbrev pub said_by : List ℕ → Result (Option DeviceLine) DeviceFault
said_by line =
    if is_faultless (line_fault line)
    then (if nat_lt 0 (length (words_of line)) then form_of (device_line (words_of line)) else Ok None)
    else Err Misshapen

-- what a line of this number adds, or its first fault; one without words adds nothing
abbrev pub line_read : Making → ℕ → List ℕ → Result Making DeviceFault
line_read making number line =
    if is_faultless (line_fault line)
    then (if nat_lt 0 (length (words_of line)) then by_form making number (device_line (words_of line)) else Ok making)
    else Err Misshapen

-- the line has no words
abbrev pub is_blank : List ℕ → Bool
is_blank line = length (words_of line) == 0

-- behind the last line with words, which is `end`, a line may only have a fault of the text
abbrev pub fault_behind : ℕ → List (List ℕ) → Option ℕ
fault_behind number [] = None
fault_behind number (line ∷ lines) =
    if is_faultless (line_fault line) then fault_behind (number + 1) lines else Some number

-- a fault behind `end` is the fault of the text
abbrev pub behind_end : Making → Option ℕ → Result Making MakeFault
behind_end making None = Ok making
behind_end making (Some number) = Err (OfLine number Misshapen)

-- the lines that follow, unless this one ended with a fault
abbrev pub then_lines : Result Making DeviceFault → ℕ → (Making → Result Making MakeFault) → Result Making MakeFault
then_lines (Ok making) number later = later making
then_lines (Err fault) number later = Err (OfLine number fault)

-- all lines up to the `end` line, the last with words; where there is none, that is told one past the last
abbrev pub lines_read : Making → ℕ → List (List ℕ) → Result Making MakeFault
lines_read making number [] = Err (OfLine number Misshapen)
lines_read making number (line ∷ lines) =
    if is_line (codes "end" ∷ []) line && list_all is_blank lines
    then behind_end making (fault_behind (number + 1) lines)
    else then_lines (line_read making number line) number (λ next. lines_read next (number + 1) lines)

-- an answer is what the lines read as, unless there was no memory
abbrev pub TellsMaking : Result Making (OrNoMemory MakeFault) → Result Making MakeFault → Type 0
TellsMaking (Ok making) reading = reading ≡ Ok making
TellsMaking (Err (Fault fault)) reading = reading ≡ Err fault
TellsMaking (Err NoMemory) reading = Unit {0}

-- The flags, on the whole board.

-- the first of the flags that are waited for that is not clear
abbrev pub unclear : Board → List Waiting → Option Waiting
unclear board waits = find (λ wait. not (is_clear board wait.flag.address wait.flag.value)) waits

-- The whole text.

-- a board, and the number of its first master of devices
pub record Made : Type 0 where
  pub board : Board
  pub first : ℕ

-- the board is made where all flags are clear; else the first that is not is told, with its line
abbrev pub by_flags : Board → ℕ → Option Waiting → Result Made MakeFault
by_flags board first None = Ok (record { board = board; first = first })
by_flags board first (Some wait) = Err (NotClear wait.line wait.flag (why_unclear board wait.flag))

-- the same behind the lines of devices
abbrev pub by_lines : ℕ → Result Making MakeFault → Result Made MakeFault
by_lines first (Ok making) =
    let board = board_of making.sheet in by_flags board first (unclear board making.waits)
by_lines first (Err fault) = Err fault

-- the lines of devices, the first of which has this number, behind a board that was read; a fault of the board is told
-- with its line in the whole text
abbrev pub by_board : ℕ → List (List ℕ) → Result (Option Draft) (ℕ × LineFault) → Result Made MakeFault
by_board number lines (Ok None) = Err (OfBoard 2 NoFirstLine)
by_board number lines (Ok (Some draft)) =
    by_lines (length (board_of draft).masters) (lines_read (record { sheet = draft; owner = Nobody; waits = [] }) number lines)
by_board number lines (Err fault) = Err (OfBoard (fault.0 + 1) fault.1)

-- the lines before the first line `devices`, and those behind it
abbrev pub with_before : List ℕ → Option (List (List ℕ) × List (List ℕ)) → Option (List (List ℕ) × List (List ℕ))
with_before line None = None
with_before line (Some parts) = Some (line ∷ parts.0, parts.1)

-- so the lines are parted, if one is `devices`
abbrev pub until_devices : List (List ℕ) → Option (List (List ℕ) × List (List ℕ))
until_devices [] = None
until_devices (line ∷ lines) =
    if is_line (codes "devices" ∷ []) line then Some ([], lines) else with_before line (until_devices lines)

-- the same of the whole, with the number of the line past the last, where a missing line is told
abbrev pub by_parts : ℕ → Option (List (List ℕ) × List (List ℕ)) → Result Made MakeFault
by_parts past None = Err (OfLine past Misshapen)
by_parts past (Some parts) = by_board (length parts.0 + 3) parts.1 (read_lines None 1 parts.0)

-- the first of these lines is `pcidevices 1`
abbrev pub is_first_devices : List (List ℕ) → Bool
is_first_devices [] = false
is_first_devices (line ∷ lines) = is_line (codes "pcidevices" ∷ codes "1" ∷ []) line

-- a text is one of devices, by its first line
abbrev pub begins_devices : List ℕ → Bool
begins_devices text = is_first_devices (lines_of text)

-- the first line is `pcidevices 1`
abbrev pub by_first : List (List ℕ) → Result Made MakeFault
by_first [] = Err (OfLine 1 Misshapen)
by_first (line ∷ lines) =
    if is_line (codes "pcidevices" ∷ codes "1" ∷ []) line
    then by_parts (length lines + 2) (until_devices lines)
    else Err (OfLine 1 Misshapen)

-- the board of a device text, or its first fault
abbrev pub made_read : List ℕ → Result Made MakeFault
made_read text = by_first (lines_of text)

-- the board alone
abbrev pub board_in : Result Made MakeFault → Result Board MakeFault
board_in (Ok made) = Ok made.board
board_in (Err fault) = Err fault

-- an answer is what the text reads as, unless there was no memory
abbrev pub Tells : Result Board (OrNoMemory MakeFault) → Result Made MakeFault → Type 0
Tells (Ok board) reading = board_in reading ≡ Ok board
Tells (Err (Fault fault)) reading = reading ≡ Err fault
Tells (Err NoMemory) reading = Unit {0}

-- a board is that of the text, and the number of its first master of devices
abbrev pub IsMade : Board → Result Made MakeFault → Type 0
IsMade board (Ok made) = made.board ≡ board
IsMade board (Err fault) = ⊥

-- the number of the first master of devices; 0 where there is no board
abbrev pub first_of : Result Made MakeFault → ℕ
first_of (Ok made) = made.first
first_of (Err fault) = 0
