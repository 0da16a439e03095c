use Rattle.std.proofs.Common.{◌≡◌, ◌++◌, drop, string_bytes}
use Rattle.board_printer.specs.Lines.{text_of}
use Rattle.run_waves.specs.Dump.{var_lines}
use Rattle.run_waves.proofs.head.print_vars.Given as goal

-- the lines so far, and those to come
abbrev pub invariant-loop-number : goal.invariant-loop-number
invariant-loop-number l =
    string_bytes l.text ++ text_of (var_lines l.board l.number (drop l.number l.signals)) ≡ string_bytes l.initial.text ++ text_of (var_lines l.board l.first (drop l.first l.signals))
