use Rattle.std.proofs.Common.{◌≡◌, ◌++◌, take, map, string_bytes}
use Rattle.board_printer.specs.Lines.{text_of}
use Rattle.board_printer.specs.Targets.{range_line}
use Rattle.board_printer.proofs.targets.print_ranges.Given as goal

-- the text so far
abbrev pub invariant-loop-range : goal.invariant-loop-range
invariant-loop-range l = string_bytes l.text ≡ string_bytes l.initial.text ++ text_of (map (range_line l.word) (take l.range-index l.ranges))
