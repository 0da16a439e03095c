-- The operation that a word names: NAME.INDEX.
use Rattle.std.specs.Prelude.{ℕ, Bool, false, List, length, Option, Some, None, not, nat_lt, nat_le, ◌&&◌}
use Rattle.std.specs.List.{list_all}
use Rattle.std.specs.Char.{is_ascii_digit}
use Rattle.std.specs.Option.{option_and_then}
use Rattle.pci_command.specs.declared.request.Request.{Request}
use Rattle.pci_command.specs.declared.op_id.OpId.{OpId}
use Rattle.board_model.specs.Names.{is_name}
use Rattle.board_model.specs.declared.agents.Target.{Target as TargetAgent}
use Rattle.board_model.specs.declared.board.Board.{Board}
use Rattle.board_model.specs.Ways.{aborts_at}
use Rattle.board_statements.specs.Words.{has_mark, before_mark, behind_mark}
use Rattle.history_model.specs.Knowledge.{is_write}
use Rattle.history_model.specs.Program.{present}
use Rattle.safe_model.specs.Clocks.{at_place}
use Rattle.judge_adverse.specs.Runs.{reads_word}
use Rattle.trace_reader.specs.lines.Words.{has_no_zero_before, number_of, at_most, only_where, master_in, at_dot}

-- a decimal of at most ten digits, as it is printed
abbrev pub is_index : List ℕ → Bool
is_index digits = has_no_zero_before digits && nat_le (length digits) 10 && list_all is_ascii_digit digits

-- the word has the form of an operation: a name, a dot, and such a decimal
abbrev pub names_operation : List ℕ → Bool
names_operation word = has_mark 46 word && is_name (before_mark 46 word) && is_index (behind_mark 46 word)

-- the operation that the two parts of a word name, where it is there
abbrev pub operation_at : Board → Option (List ℕ × List ℕ) → Option OpId
operation_at board None = None
operation_at board (Some parts) =
    option_and_then (λ master. option_and_then (λ index. present board (at_place master index)) (at_most 65535 (number_of parts.1)))
    (master_in board parts.0)

-- the operation of the board that the word names, by its first try: of the master of that name, at that index
abbrev pub operation_of : Board → List ℕ → Option OpId
operation_of board word = operation_at board (at_dot word)

-- a request has a word at a target: it has a data phase, and the target does not abort it
abbrev pub has_word_in : Request → Option TargetAgent → Bool
has_word_in request None = false
has_word_in request (Some target) = not (aborts_at target request) && nat_lt 0 (length request.phases)

-- the read of a word, no poll, that the word names
abbrev pub read_of : Board → List ℕ → Option OpId
read_of board word = option_and_then (λ o. only_where (reads_word board o) (Some o)) (operation_of board word)

-- the write that the word names
abbrev pub write_of : Board → List ℕ → Option OpId
write_of board word = option_and_then (λ o. only_where (is_write board o) (Some o)) (operation_of board word)
