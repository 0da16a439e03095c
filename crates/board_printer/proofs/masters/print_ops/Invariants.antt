use Rattle.std.proofs.Common.{◌≡◌, ◌++◌, take, map, string_bytes}
use Rattle.board_printer.specs.Lines.{text_of}
use Rattle.board_printer.specs.Masters.{op_line}
use Rattle.board_printer.proofs.masters.print_ops.Given as goal

-- the text so far
abbrev pub invariant-loop-op : goal.invariant-loop-op
invariant-loop-op l = string_bytes l.text ≡ string_bytes l.initial.text ++ text_of (map op_line (take l.op-index l.ops))
