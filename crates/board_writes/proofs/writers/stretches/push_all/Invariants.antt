use Rattle.std.proofs.Common.{drop}
use Rattle.board_writes.proofs.StretchLemmas.{Made}
use Rattle.board_writes.proofs.writers.stretches.push_all.Given as goal

-- those so far
abbrev pub invariant-loop-write : goal.invariant-loop-write
invariant-loop-write l = Made l.writes (drop l.write-index l.writes) l.runs.items
