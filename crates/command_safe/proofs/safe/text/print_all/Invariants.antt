use Rattle.std.proofs.Common.{◌≡◌, ◌++◌, drop, map, string_bytes}
use Rattle.safe_said.specs.AllSaid.{line}
use Rattle.command_safe.specs.safe.Lines.{said_lines}
use Rattle.command_safe.proofs.safe.text.print_all.Given as goal

-- the lines so far, and those to come
abbrev pub invariant-loop-one : goal.invariant-loop-one
invariant-loop-one l = string_bytes l.text ++ said_lines l.board (map line (drop l.one-index l.said)) ≡ string_bytes l.initial.text ++ said_lines l.board (map line l.said)
