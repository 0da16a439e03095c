-- A line of a log behind `log`: what it shows, by its words and by the lines before it.
use Rattle.std.specs.Prelude.{ℕ, Bool, true, false, ◌+◌, ◌-◌, ◌/◌, ◌^◌, List, [], ◌∷◌, ◌++◌, length, Option, Some, None, Result, Ok, Err, not, ◌==◌, ◌&&◌, nat_lt, codes, if◌then◌else◌}
use Rattle.std.specs.Str.{bytes_eq}
use Rattle.pci_command.specs.declared.command.Command.{Command}
use Rattle.pci_command.specs.declared.command.Space.{Space}
use Rattle.pci_command.specs.declared.command.Space.TheVariants.{Mem, Io, Cfg}
use Rattle.pci_command.specs.declared.phases.Phase.{Phase}
use Rattle.pci_command.specs.Command.{space_of, is_read}
use Rattle.board_model.specs.declared.board.Board.{Board}
use Rattle.text_faults.specs.declared.board_line.LineFault.{LineFault}
use Rattle.board_statements.specs.Words.{data_word_of}
use Rattle.text_faults.specs.declared.log_line.LogLineFault.TheVariants.{TooEarly, NoSuchData}
use Rattle.observe_log.specs.declared.fault.AtWord.{AtWord}
use Rattle.observe_told.specs.declared.seen.Ending.{Ending}
use Rattle.observe_told.specs.declared.seen.Ending.TheVariants.{Done, Retry, TargetAbort, Nobody}
use Rattle.observe_told.specs.declared.seen.Addressed.{Addressed}
use Rattle.observe_told.specs.declared.seen.Addressed.TheVariants.{Byte, Type0, Type1}
use Rattle.observe_told.specs.declared.seen.Seen.{Seen}
use Rattle.observe_log.specs.declared.line.heading.Heading.{Heading}
use Rattle.observe_log.specs.Readers.{misread}
use Rattle.observe_log.specs.Words.{heading_form}

-- WORD.. RESULT

-- RESULT of an abort
abbrev pub abort_of : List ℕ → Option Ending
abort_of word =
    if bytes_eq word (codes "tabort") then Some TargetAbort
    else if bytes_eq word (codes "nobody") then Some Nobody
    else None

-- RESULT
abbrev pub ending_of : List ℕ → Option Ending
ending_of word =
    if bytes_eq word (codes "done") then Some Done
    else if bytes_eq word (codes "retry") then Some Retry
    else abort_of word

-- RESULT is the last word; before it each word is a data word
abbrev pub data_by : (List Phase → Result (List Phase × Ending) AtWord) → ℕ → List Phase → List (List ℕ) → Option Ending → Result Phase LineFault → Result (List Phase × Ending) AtWord
data_by later place phases words (Some ending) value =
    if length words == 0 then Ok (phases, ending) else Err (misread (place + 1))
data_by later place phases words None (Ok phase) = later (phases ++ phase ∷ [])
data_by later place phases words None (Err fault) = Err (misread place)

-- the data words behind those before, and how the transaction ended, where the next word has this place
abbrev pub data_read : ℕ → List Phase → List (List ℕ) → Result (List Phase × Ending) AtWord
data_read place phases [] = Err (misread place)
data_read place phases (word ∷ words) =
    data_by (λ more. data_read (place + 1) more words) place phases words (ending_of word) (data_word_of word)

-- How many data words there may be.

-- one dword a transaction: in I/O and configuration space
abbrev pub is_single_in : Space → Bool
is_single_in Mem = false
is_single_in Io = true
is_single_in Cfg = true

-- the same by the command
abbrev pub is_single : Command → Bool
is_single command = is_single_in (space_of command)

-- a write of I/O or configuration, which shows its word whatever came of it
abbrev pub is_single_write : Command → Bool
is_single_write command = is_single command && not (is_read command)

-- `done` shows what was transferred
abbrev pub needs_data : Command → Ending → Bool
needs_data command Done = true
needs_data command Retry = is_single_write command
needs_data command TargetAbort = is_single_write command
needs_data command Nobody = is_single_write command

-- where no data was transferred: the word that a write offered, in memory with `retry` alone
abbrev pub most_offered : Command → Ending → Option ℕ
most_offered command Done = None
most_offered command Retry = if is_read command then Some 0 else Some 1
most_offered command TargetAbort = None
most_offered command Nobody = if is_single_write command then Some 1 else Some 0

-- more words than may be, where there is a bound
abbrev pub past_offered : ℕ → Option ℕ → Option AtWord
past_offered count None = None
past_offered count (Some most) = if nat_lt most count then Some (misread (5 + most)) else None

-- how many dwords there are from an address to the end of the space
abbrev pub room_from : ℕ → ℕ
room_from address = (2 ^ 64 - 1 - address) / 4 + 1

-- words that pass the end of the address space
abbrev pub past_space : Addressed → ℕ → Option AtWord
past_space (Byte address) count =
    if nat_lt (room_from address) count then Some (record { word = 5 + room_from address; fault = NoSuchData }) else None
past_space (Type0 device register) count = None
past_space (Type1 bus device register) count = None

-- the first fault, or else the later one
abbrev pub or_else : Option AtWord → Option AtWord → Option AtWord
or_else (Some fault) later = Some fault
or_else None later = later

-- what is wrong with so many data words: none where there has to be one, a second one in I/O or configuration, one that was
-- not transferred, or one past the end of the address space
abbrev pub data_fault : Command → Addressed → ℕ → Ending → Option AtWord
data_fault command address count ending =
    if needs_data command ending && count == 0 then Some (record { word = 5; fault = NoSuchData })
    else if is_single command && nat_lt 1 count then Some (record { word = 6; fault = NoSuchData })
    else or_else (past_offered count (most_offered command ending)) (past_space address count)

-- The lines so far, and one more.

-- what was read of a log: its lines, and the data phases of them all
pub record Read : Type 0 where
  pub lines : List Seen
  pub phases : List Phase

-- nothing yet
abbrev pub nothing_read : Read
nothing_read = record { lines = []; phases = [] }

-- when the last of these lines on a bus ended; 0 where there is none
abbrev pub last_end_behind : ℕ → ℕ → List Seen → ℕ
last_end_behind bus time [] = time
last_end_behind bus time (seen ∷ lines) = last_end_behind bus (if seen.bus == bus then seen.end else time) lines

-- when the last line of a bus ended
abbrev pub last_end : ℕ → List Seen → ℕ
last_end bus lines = last_end_behind bus 0 lines

-- one more line, unless it begins before the last one of its bus ended
abbrev pub with_line : Read → Seen → List Phase → Result Read AtWord
with_line so_far seen phases =
    if nat_lt seen.start (last_end seen.bus so_far.lines)
    then Err (record { word = 0; fault = TooEarly })
    else Ok (record { lines = so_far.lines ++ seen ∷ []; phases = so_far.phases ++ phases })

-- the line of this number by its heading and its data
abbrev pub seen_of : ℕ → Read → Heading → List Phase → Ending → Seen
seen_of number so_far heading phases ending = record {
  line = number;
  start = heading.start;
  end = heading.end;
  bus = heading.bus;
  who = heading.who;
  command = heading.command;
  address = heading.address;
  first = length so_far.phases;
  count = length phases;
  ending = ending;
}

-- what is read, where nothing is wrong with the data words
abbrev pub unless_fault : Option AtWord → Result Read AtWord → Result Read AtWord
unless_fault (Some fault) read = Err fault
unless_fault None read = read

-- the line with its data
abbrev pub with_data : ℕ → Read → Heading → Result (List Phase × Ending) AtWord → Result Read AtWord
with_data number so_far heading (Ok shown) =
    unless_fault (data_fault heading.command heading.address (length shown.0) shown.1)
    (with_line so_far (seen_of number so_far heading shown.0 shown.1) shown.0)
with_data number so_far heading (Err fault) = Err fault

-- the line with its first five words
abbrev pub with_heading : ℕ → Read → Result (Heading × List (List ℕ)) AtWord → Result Read AtWord
with_heading number so_far (Ok read) = with_data number so_far read.0 (data_read 5 [] read.1)
with_heading number so_far (Err fault) = Err fault

-- the lines so far and the line of this number, by its words, or its first fault: the words from left to right, then how
-- many data words there may be, then the line before it on its bus
abbrev pub line_read : Board → ℕ → Read → List (List ℕ) → Result Read AtWord
line_read board number so_far words = with_heading number so_far (heading_form board words)
