use Rattle.board_writes.proofs.StartLemmas.{StartedTo}
use Rattle.board_writes.proofs.start.start_of.Given as goal

-- the operations so far
abbrev pub invariant-loop-place : goal.invariant-loop-place
invariant-loop-place l = StartedTo l.all l.ops l.rows.items l.lasts.items l.end l.place
