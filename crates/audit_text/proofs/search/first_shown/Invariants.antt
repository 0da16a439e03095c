use Rattle.std.proofs.Common.{slice_get}
use Rattle.audit_text.specs.Search.{shows_at}
use Rattle.audit_text.proofs.SearchLemmas.{FirstOf}
use Rattle.audit_text.proofs.search.first_shown.Given as goal

-- the first of the tracks so far
abbrev pub invariant-loop-track : goal.invariant-loop-track
invariant-loop-track l = FirstOf (λ at. shows_at l.ledger l.reading l.write (slice_get l.writes at)) l.track-items l.track-index l.first
