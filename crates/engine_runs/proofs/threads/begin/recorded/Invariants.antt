use Rattle.std.proofs.Common.{◌≡◌, ◌-◌, ◌^◌, min, take}
use Rattle.engine_phases.specs.Phase.{count_all}
use Rattle.engine_runs.specs.Loop.{all_seen}
use Rattle.engine_runs.proofs.threads.begin.recorded.Given as goal

-- the events of the first workers
abbrev pub invariant-loop-worker : goal.invariant-loop-worker
invariant-loop-worker g l = l.count ≡ min (count_all (all_seen (take l.worker-index l.workers))) (2 ^ 64 - 1)
