use Rattle.std.proofs.Common.{drop}
use Rattle.board_writes.specs.Stretches.{joined}
use Rattle.board_writes.proofs.StayLemmas.{Told}
use Rattle.board_writes.proofs.polls.stays.put_raisers.Given as goal

-- those of the stretches so far
abbrev pub invariant-loop-place : goal.invariant-loop-place
invariant-loop-place l = Told l.table l.poll l.awaited (joined l.writes) l.raising (drop l.place l.raising) l.found.items
