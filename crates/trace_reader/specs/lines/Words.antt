-- The words of an event line, each read only as it is printed.
use Rattle.std.specs.Prelude.{ℕ, Bool, true, false, ◌-◌, List, [], ◌∷◌, length, take, Option, Some, None, is_some, Result, Ok, Err, not, nat_le, ◌==◌, ◌&&◌, codes, if◌then◌else◌, slice_index}
use Rattle.std.specs.List.{list_all, position}
use Rattle.std.specs.Option.{option_map, option_and_then}
use Rattle.std.specs.Str.{bytes_eq}
use Rattle.pci_command.specs.declared.op_id.OpId.{OpId}
use Rattle.pci_command.specs.declared.op_id.Outcome.{Outcome}
use Rattle.pci_command.specs.declared.op_id.Outcome.TheVariants.{Value, Written, Aborted}
use Rattle.board_model.specs.declared.bridge.Lane.{Lane as BridgeLane}
use Rattle.board_model.specs.declared.board.Board.{Board}
use Rattle.board_model.specs.Requests.{op_of}
use Rattle.board_model.specs.WellFormed.{is_target_named, is_master_named}
use Rattle.board_model.specs.Valid.{has_bridge_to, is_bus}
use Rattle.board_text.specs.Numbers.{hex_answer, decimal_answer}
use Rattle.board_statements.specs.Words.{has_mark, before_mark, behind_mark}
use Rattle.history_model.specs.declared.event.By.{By}
use Rattle.history_model.specs.declared.event.By.TheVariants.{Master, Lane as FromLane}
use Rattle.trace_text.specs.Words.{names_poll}

-- Numbers.

-- the answer, where that holds
abbrev pub only_where : {A : Type 0} → Bool → Option A → Option A
only_where holds answer = if holds then answer else None

-- a number that was read, if it was
abbrev pub answered : {E : Type 0} → Result ℕ E → Option ℕ
answered (Ok n) = Some n
answered (Err fault) = None

-- no zero before another digit
abbrev pub has_no_zero_before : List ℕ → Bool
has_no_zero_before [] = false
has_no_zero_before (first ∷ []) = true
has_no_zero_before (first ∷ next ∷ rest) = not (first == 48)

-- a decimal number below 2^32
abbrev pub number_of : List ℕ → Option ℕ
number_of word = only_where (has_no_zero_before word) (answered (decimal_answer word))

-- a number of at most this
abbrev pub at_most : ℕ → Option ℕ → Option ℕ
at_most most answer = option_and_then (λ n. only_where (nat_le n most) (Some n)) answer

-- eight hexadecimal digits in lower case
abbrev pub is_lower_case : ℕ → Bool
is_lower_case byte = not (nat_le 65 byte && nat_le byte 90)

-- the number that these digits say
abbrev pub value_of : List ℕ → Option ℕ
value_of word = only_where (length word == 8 && list_all is_lower_case word) (answered (hex_answer word 8))

-- What the words name on the board.

-- a bus
abbrev pub bus_in : Board → List ℕ → Option ℕ
bus_in board word = option_and_then (λ bus. only_where (is_bus board bus) (Some bus)) (at_most 255 (number_of word))

-- the secondary bus of a bridge
abbrev pub bridge_in : Board → List ℕ → Option ℕ
bridge_in board word = option_and_then (λ bus. only_where (has_bridge_to board bus) (Some bus)) (at_most 255 (number_of word))

-- a lane: the number of its bridge, and `u` for up or `d` for down
abbrev pub towards : Bool → ℕ → BridgeLane
towards up number = record { bus = number; up = up }

-- all bytes but the last
abbrev pub without_last : List ℕ → List ℕ
without_last word = take (length word - 1) word

-- the last byte of a word
abbrev pub last_byte : List ℕ → ℕ
last_byte word = slice_index word (length word - 1)

-- the lane that a word names, if its bridge is there
abbrev pub lane_in : Board → List ℕ → Option BridgeLane
lane_in board word =
    if last_byte word == 117 then option_map (towards true) (bridge_in board (without_last word))
    else if last_byte word == 100 then option_map (towards false) (bridge_in board (without_last word))
    else None

-- an initiator: `m` for the operation's own master, otherwise a lane
abbrev pub by_in : Board → List ℕ → Option By
by_in board word = if bytes_eq word (codes "m") then Some Master else option_map FromLane (lane_in board word)

-- a target, by its name
abbrev pub target_in : Board → List ℕ → Option ℕ
target_in board word = at_most 65535 (position (is_target_named word) board.targets)

-- an operation: NAME.INDEX, for a poll NAME.INDEX.TRY

-- a master, by its name
abbrev pub master_in : Board → List ℕ → Option ℕ
master_in board word = at_most 65535 (position (is_master_named word) board.masters)

-- what stands before the first dot, and what behind it
abbrev pub at_dot : List ℕ → Option (List ℕ × List ℕ)
at_dot word = only_where (has_mark 46 word) (Some (before_mark 46 word, behind_mark 46 word))

-- both or neither
abbrev pub same_flag : Bool → Bool → Bool
same_flag true flag = flag
same_flag false flag = not flag

-- the operation of that name, which is there, and a poll or none as it is named
abbrev pub named : Board → Bool → ℕ → ℕ → ℕ → Option OpId
named board polls master index attempt =
    let o : OpId = record { master = master; index = index; attempt = attempt } in
    only_where (is_some (op_of board o) && same_flag (names_poll board o) polls) (Some o)

-- the index of an operation, and of a poll its try
abbrev pub index_and_try : Board → ℕ → Option (List ℕ × List ℕ) → List ℕ → Option OpId
index_and_try board master None word = option_and_then (λ index. named board false master index 0) (at_most 65535 (number_of word))
index_and_try board master (Some parts) word =
    option_and_then (λ index. option_and_then (named board true master index) (number_of parts.1)) (at_most 65535 (number_of parts.0))

-- the operation behind the name of its master
abbrev pub op_by : Board → Option (List ℕ × List ℕ) → Option OpId
op_by board None = None
op_by board (Some parts) = option_and_then (λ master. index_and_try board master (at_dot parts.1) parts.1) (master_in board parts.0)

-- the operation that a word names
abbrev pub op_in : Board → List ℕ → Option OpId
op_in board word = op_by board (at_dot word)

-- the header of a bridge, as `=B`
abbrev pub begins_header : List ℕ → Bool
begins_header [] = false
begins_header (first ∷ rest) = first == 61

-- the bridge that is named behind the sign
abbrev pub header_in : Board → List ℕ → Option ℕ
header_in board [] = None
header_in board (first ∷ rest) = bridge_in board rest

-- an outcome: `ok`, `abort` or a value
abbrev pub outcome_in : List ℕ → Option Outcome
outcome_in word =
    if bytes_eq word (codes "ok") then Some Written
    else if bytes_eq word (codes "abort") then Some Aborted
    else option_map Value (value_of word)

-- how many data phases went through: one digit from 1 to 8
abbrev pub phases_in : List ℕ → Option ℕ
phases_in word = option_and_then (λ n. only_where (nat_le 1 n && nat_le n 8) (Some n)) (number_of word)
