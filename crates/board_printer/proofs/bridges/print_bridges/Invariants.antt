use Rattle.std.proofs.Common.{◌≡◌, ◌++◌, take, map, string_bytes}
use Rattle.board_printer.specs.Lines.{text_of}
use Rattle.board_printer.specs.Bridges.{bridge_line}
use Rattle.board_printer.proofs.bridges.print_bridges.Given as goal

-- the text so far
abbrev pub invariant-loop-bridge : goal.invariant-loop-bridge
invariant-loop-bridge l = string_bytes l.text ≡ string_bytes l.initial.text ++ text_of (map bridge_line (take l.bridge-index l.bridges))
