use Rattle.std.proofs.Common.{◌≡◌, ◌++◌, [], drop, map, string_bytes}
use Rattle.board_printer.specs.Lines.{spaced}
use Rattle.trace_text.specs.Words.{op_word}
use Rattle.audit_text.proofs.lines.print_chain.Given as goal

-- the words so far, and those to come
abbrev pub invariant-loop-op : goal.invariant-loop-op
invariant-loop-op l =
    string_bytes l.text ++ spaced (map (op_word l.board) (drop l.op-index l.chain)) [] ≡ string_bytes l.initial.text ++ spaced (map (op_word l.board) l.chain) []
