-- The words of a line: START-END BUS WHO COMMAND ADDRESS WORD.. RESULT, at the places 0, 1, 2, 3, 4 and from 5 on.
use Rattle.std.specs.Prelude.{ℕ, Bool, true, false, ◌-◌, ◌%◌, List, length, take, slice_index, Option, Some, None, Result, Ok, Err, ◌==◌, ◌&&◌, nat_le, codes, if◌then◌else◌}
use Rattle.std.specs.Option.{option_map, option_and_then}
use Rattle.std.specs.List.{position}
use Rattle.std.specs.Str.{bytes_eq}
use Rattle.std.specs.Str.Parse.{digits_value}
use Rattle.pci_command.specs.declared.command.Command.{Command}
use Rattle.pci_command.specs.declared.command.Command.TheVariants.{IoRead, IoWrite, MemRead, MemWrite, CfgRead, CfgWrite, MemReadMultiple, MemReadLine, MemWriteInvalidate}
use Rattle.pci_command.specs.declared.command.Space.{Space}
use Rattle.pci_command.specs.declared.command.Space.TheVariants.{Mem, Io, Cfg}
use Rattle.pci_command.specs.Command.{space_of}
use Rattle.board_model.specs.declared.agents.Master.{Master as MasterAgent}
use Rattle.board_model.specs.declared.bridge.Lane.{Lane as BridgeLane}
use Rattle.board_model.specs.declared.board.Board.{Board}
use Rattle.board_model.specs.WellFormed.{is_master_named}
use Rattle.board_model.specs.Valid.{has_bridge_to, is_bus}
use Rattle.board_model.specs.Ways.{end_of}
use Rattle.board_text.specs.declared.numbers.NumberFault.{NumberFault}
use Rattle.board_text.specs.Numbers.{is_numeral, decimal_answer}
use Rattle.board_statements.specs.Words.{has_mark, before_mark, behind_mark, hex, decimal, long}
use Rattle.text_faults.specs.declared.log_line.LogLineFault.{LogLineFault}
use Rattle.text_faults.specs.declared.log_line.LogLineFault.TheVariants.{Misread, NotThere}
use Rattle.observe_log.specs.declared.fault.AtWord.{AtWord}
use Rattle.observe_told.specs.declared.seen.Who.{Who}
use Rattle.observe_told.specs.declared.seen.Who.TheVariants.{Master, Lane}
use Rattle.observe_told.specs.declared.seen.Addressed.{Addressed}
use Rattle.observe_told.specs.declared.seen.Addressed.TheVariants.{Byte, Type0, Type1}
use Rattle.observe_log.specs.declared.line.heading.Heading.{Heading}
use Rattle.observe_log.specs.Readers.{◌>>=◌, Reader, give, misread, one_word, as_in_boards}

-- a word is of its kind where it has this value
abbrev pub of_kind : {A : Type 0} → Option A → Result A LogLineFault
of_kind None = Err Misread
of_kind (Some value) = Ok value

-- START-END

-- digits of a base alone, one or more and at most so many
abbrev pub is_short_numeral : ℕ → ℕ → List ℕ → Bool
is_short_numeral radix most word = is_numeral radix word && nat_le (length word) most

-- a decimal of 1 to 18 digits
abbrev pub time_of : List ℕ → Option ℕ
time_of word = if is_short_numeral 10 18 word then Some (digits_value 10 word) else None

-- two times, the first not above the second
abbrev pub ordered : ℕ → ℕ → Option (ℕ × ℕ)
ordered start end = if nat_le start end then Some (start, end) else None

-- START-END, or START alone, which stands for START-START
abbrev pub times_of : List ℕ → Option (ℕ × ℕ)
times_of word =
    if has_mark 45 word
    then option_and_then (λ start. option_and_then (ordered start) (time_of (behind_mark 45 word))) (time_of (before_mark 45 word))
    else option_map (λ time. (time, time)) (time_of word)

-- BUS

-- a decimal that is the number of a bus of the board
abbrev pub bus_by : Board → Result (ℕ × List (List ℕ)) AtWord → Result (ℕ × List (List ℕ)) AtWord
bus_by board (Ok read) =
    if nat_le read.0 255 && is_bus board read.0 then Ok read else Err (record { word = 1; fault = NotThere })
bus_by board (Err fault) = Err fault

-- BUS: a decimal, the number of a bus of the board
abbrev pub bus_form : Board → Reader ℕ
bus_form board words = bus_by board (as_in_boards 1 (decimal 0 4294967295 words))

-- WHO

-- a master of this name on the bus
abbrev pub is_driver : ℕ → List ℕ → MasterAgent → Bool
is_driver bus word master = master.bus == bus && is_master_named word master

-- a place in a list that is as long as a board may have masters
abbrev pub as_place : Option ℕ → Option ℕ
as_place found = option_and_then (λ place. if nat_le place 65535 then Some place else None) found

-- a bridge of the board by its number
abbrev pub bridge_by : Board → Result ℕ NumberFault → Option ℕ
bridge_by board (Ok bus) = if nat_le bus 255 && has_bridge_to board bus then Some bus else None
bridge_by board (Err fault) = None

-- the lane of that bridge in this direction, where it ends on the bus
abbrev pub lane_to : Board → ℕ → Bool → ℕ → Option Who
lane_to board on up bridge =
    let lane : BridgeLane = record { bus = bridge; up = up } in if end_of board lane == on then Some (Lane lane) else None

-- what stands before the last byte of a word
abbrev pub without_last : List ℕ → List ℕ
without_last word = take (length word - 1) word

-- its last byte
abbrev pub last_byte : List ℕ → ℕ
last_byte word = slice_index word (length word - 1)

-- a lane that ends on the bus: the number of its bridge, and `u` (117) for up or `d` (100) for down
abbrev pub lane_in : Board → ℕ → List ℕ → Option Who
lane_in board on word =
    if last_byte word == 117 then option_and_then (lane_to board on true) (bridge_by board (decimal_answer (without_last word)))
    else if last_byte word == 100 then option_and_then (lane_to board on false) (bridge_by board (decimal_answer (without_last word)))
    else None

-- a master that was found, or else a lane
abbrev pub who_by : Option ℕ → Option Who → Result Who LogLineFault
who_by (Some master) lane = Ok (Master master)
who_by None (Some lane) = Ok lane
who_by None None = Err NotThere

-- a master of the board on the bus, or a lane that ends on it
abbrev pub who_in : Board → ℕ → List ℕ → Result Who LogLineFault
who_in board bus word = who_by (as_place (position (is_driver bus word) board.masters)) (lane_in board bus word)

-- COMMAND

-- of configuration
abbrev pub register_command_of : List ℕ → Option Command
register_command_of word =
    if bytes_eq word (codes "cfr") then Some CfgRead
    else if bytes_eq word (codes "cfw") then Some CfgWrite
    else None

-- the nine commands
abbrev pub command_of : List ℕ → Option Command
command_of word =
    if bytes_eq word (codes "mr") then Some MemRead
    else if bytes_eq word (codes "mrl") then Some MemReadLine
    else if bytes_eq word (codes "mrm") then Some MemReadMultiple
    else if bytes_eq word (codes "ior") then Some IoRead
    else if bytes_eq word (codes "mw") then Some MemWrite
    else if bytes_eq word (codes "mwi") then Some MemWriteInvalidate
    else if bytes_eq word (codes "iow") then Some IoWrite
    else register_command_of word

-- ADDRESS

-- a byte address that is a multiple of 4
abbrev pub dword_by : Result (ℕ × List (List ℕ)) AtWord → Result (Addressed × List (List ℕ)) AtWord
dword_by (Ok read) = if read.0 % 4 == 0 then Ok (Byte read.0, read.1) else Err (misread 4)
dword_by (Err fault) = Err fault

-- a decimal of at most so much
abbrev pub number_by : ℕ → Result ℕ NumberFault → Option ℕ
number_by most (Ok n) = if nat_le n most then Some n else None
number_by most (Err fault) = None

-- the same of what stands in a part of a word
abbrev pub part_of : ℕ → List ℕ → Option ℕ
part_of most part = number_by most (decimal_answer part)

-- of type 0: the device, or `-` (45) where no IDSEL was up
abbrev pub device_of : List ℕ → Option (Option ℕ)
device_of part = if bytes_eq part (codes "-") then Some None else option_map Some (part_of 31 part)

-- D.R
abbrev pub type_0_of : List ℕ → List ℕ → Option Addressed
type_0_of first second = option_and_then (λ device. option_map (Type0 device) (part_of 63 second)) (device_of first)

-- B.D.R
abbrev pub type_1_of : List ℕ → List ℕ → List ℕ → Option Addressed
type_1_of first second third =
    option_and_then (λ bus. option_and_then (λ device. option_map (Type1 bus device) (part_of 63 third)) (part_of 31 second)) (part_of 255 first)

-- what stands behind the first dot (46) tells the type
abbrev pub behind_dot : List ℕ → List ℕ → Option Addressed
behind_dot first rest =
    if has_mark 46 rest then type_1_of first (before_mark 46 rest) (behind_mark 46 rest) else type_0_of first rest

-- a register in configuration space
abbrev pub register_of : List ℕ → Option Addressed
register_of word = if has_mark 46 word then behind_dot (before_mark 46 word) (behind_mark 46 word) else None

-- ADDRESS, by the space of the command: LONG in memory, HEX in I/O
abbrev pub address_in : Space → Reader Addressed
address_in Mem words = dword_by (as_in_boards 4 (long true words))
address_in Io words = dword_by (as_in_boards 4 (hex 8 words))
address_in Cfg words = one_word 4 (λ word. of_kind (register_of word)) words

-- The first five words.

-- the words of all lines in their order, up to the address
unfoldable pub heading_form : Board → Reader Heading
heading_form board = do
  times ← one_word 0 (λ word. of_kind (times_of word))
  bus ← bus_form board
  who ← one_word 2 (who_in board bus)
  command ← one_word 3 (λ word. of_kind (command_of word))
  address ← address_in (space_of command)
  give (record { start = times.0; end = times.1; bus = bus; who = who; command = command; address = address })
