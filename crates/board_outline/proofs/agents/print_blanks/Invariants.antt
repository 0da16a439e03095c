use Rattle.std.proofs.Common.{◌≡◌, ◌++◌, string_bytes}
use Rattle.board_outline.specs.Outline.{blanks}
use Rattle.board_outline.proofs.agents.print_blanks.Given as goal

-- two blanks for each bridge so far
abbrev pub invariant-levels : goal.invariant-levels
invariant-levels l = string_bytes l.text ≡ string_bytes l.initial.text ++ blanks l.counter
