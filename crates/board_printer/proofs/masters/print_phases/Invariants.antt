use Rattle.std.proofs.Common.{◌≡◌, [], ◌++◌, take, map, string_bytes}
use Rattle.board_printer.specs.Lines.{spaced}
use Rattle.board_printer.specs.Numbers.{phase_text}
use Rattle.board_printer.proofs.masters.print_phases.Given as goal

-- the text so far
abbrev pub invariant-loop-phase : goal.invariant-loop-phase
invariant-loop-phase l = string_bytes l.text ≡ string_bytes l.initial.text ++ spaced (map phase_text (take l.phase-index l.phases)) []
