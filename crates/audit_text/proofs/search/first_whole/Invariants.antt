use Rattle.std.proofs.Common.{slice_get}
use Rattle.audit_text.specs.Search.{is_whole}
use Rattle.audit_text.proofs.SearchLemmas.{FailsSo}
use Rattle.audit_text.proofs.search.first_whole.Given as goal

-- no place so far passes
abbrev pub invariant-loop-place : goal.invariant-loop-place
invariant-loop-place l = FailsSo (λ at. is_whole l.ledger l.reading (slice_get l.writes at)) l.places l.place-index
