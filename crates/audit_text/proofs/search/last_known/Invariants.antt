use Rattle.std.proofs.Common.{slice_get}
use Rattle.audit_text.specs.Search.{is_known}
use Rattle.audit_text.proofs.SearchLemmas.{LastOf}
use Rattle.audit_text.proofs.search.last_known.Given as goal

-- the last of the tracks so far
abbrev pub invariant-loop-track : goal.invariant-loop-track
invariant-loop-track l = LastOf (λ at. is_known l.ledger l.read (slice_get l.writes at)) l.track-items l.track-index l.last
