use Rattle.std.proofs.Common.{◌≡◌, ◌++◌, take, string_bytes}
use Rattle.std.specs.List.{flat_map}
use Rattle.board_printer.specs.Lines.{text_of}
use Rattle.board_printer.specs.Masters.{master_lines}
use Rattle.board_printer.proofs.masters.print_masters.Given as goal

-- the text so far
abbrev pub invariant-loop-master : goal.invariant-loop-master
invariant-loop-master l = string_bytes l.text ≡ string_bytes l.initial.text ++ text_of (flat_map master_lines (take l.master-index l.masters))
