use Rattle.std.proofs.Common.{◌≡◌, ◌++◌, drop, string_bytes}
use Rattle.command_traces.specs.untagged.Lines.{stale_lines}
use Rattle.command_traces.proofs.untagged.text.print_stales.Given as goal

-- the lines so far, and those to come
abbrev pub invariant-loop-one : goal.invariant-loop-one
invariant-loop-one l = string_bytes l.text ++ stale_lines l.board (drop l.one-index l.stale) ≡ string_bytes l.initial.text ++ stale_lines l.board l.stale
