use Rattle.engine_runs.proofs.threads.BeginLemmas.{BegunSoFar}
use Rattle.engine_runs.proofs.threads.begin.begin_all.Given as goal

-- the first workers began
abbrev pub invariant-loop-worker : goal.invariant-loop-worker
invariant-loop-worker g l = BegunSoFar {End = g.row.L.Denot} l.from l.worker-index l.initial.workers l.workers
