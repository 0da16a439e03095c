use Rattle.std.proofs.Common.{◌≡◌, ◌++◌, take, string_bytes}
use Rattle.std.specs.List.{flat_map}
use Rattle.board_printer.specs.Lines.{text_of}
use Rattle.board_printer.specs.headers.Headers.{header_lines}
use Rattle.board_printer.proofs.headers.print_bridges.Given as goal

-- the text so far
abbrev pub invariant-loop-bridge : goal.invariant-loop-bridge
invariant-loop-bridge l = string_bytes l.text ≡ string_bytes l.initial.text ++ text_of (flat_map header_lines (take l.bridge-index l.bridges))
