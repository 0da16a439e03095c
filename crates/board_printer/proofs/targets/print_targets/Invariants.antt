use Rattle.std.proofs.Common.{◌≡◌, ◌++◌, take, string_bytes}
use Rattle.std.specs.List.{flat_map}
use Rattle.board_printer.specs.Lines.{text_of}
use Rattle.board_printer.specs.Targets.{target_lines}
use Rattle.board_printer.proofs.targets.print_targets.Given as goal

-- the text so far
abbrev pub invariant-loop-target : goal.invariant-loop-target
invariant-loop-target l = string_bytes l.text ≡ string_bytes l.initial.text ++ text_of (flat_map target_lines (take l.target-index l.targets))
