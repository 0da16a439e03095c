use Rattle.std.proofs.Common.{◌≡◌, ◌++◌, take, map, string_bytes}
use Rattle.board_printer.specs.Lines.{text_of}
use Rattle.board_printer.specs.Targets.{opening_line}
use Rattle.board_printer.proofs.targets.print_openings.Given as goal

-- the text so far
abbrev pub invariant-loop-opening : goal.invariant-loop-opening
invariant-loop-opening l = string_bytes l.text ≡ string_bytes l.initial.text ++ text_of (map opening_line (take l.opening-index l.openings))
