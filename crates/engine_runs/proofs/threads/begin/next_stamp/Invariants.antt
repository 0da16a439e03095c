use Rattle.engine_runs.specs.Loop.{all_seen}
use Rattle.engine_runs.proofs.threads.BeginLemmas.{NextSoFar}
use Rattle.engine_runs.proofs.threads.begin.next_stamp.Given as goal

-- one more than the greatest stamp of the first workers
abbrev pub invariant-loop-worker : goal.invariant-loop-worker
invariant-loop-worker g l = NextSoFar (all_seen l.workers) l.worker-index l.next
