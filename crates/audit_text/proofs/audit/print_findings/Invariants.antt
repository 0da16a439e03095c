use Rattle.std.proofs.Common.{◌≡◌, ◌++◌, drop, string_bytes}
use Rattle.audit_text.specs.Lines.{findings_text}
use Rattle.audit_text.proofs.audit.print_findings.Given as goal

-- the lines so far, and those to come
abbrev pub invariant-loop-one : goal.invariant-loop-one
invariant-loop-one l =
    string_bytes l.text ++ findings_text l.board (drop l.one-index l.found) ≡ string_bytes l.initial.text ++ findings_text l.board l.found
