use Rattle.std.proofs.Common.{take}
use Rattle.history_model.specs.Runs.{history_of}
use Rattle.audit_text.proofs.AuditLemmas.{SoFar}
use Rattle.audit_text.proofs.findings.find_with.Given as goal

-- what was noted down and found of the events so far
abbrev pub invariant-loop-index : goal.invariant-loop-index
invariant-loop-index l = SoFar l.board (history_of (take l.index l.events)) l.ledger l.all.items
