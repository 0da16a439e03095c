use Rattle.std.proofs.Common.{◌≡◌, ◌++◌, length, map}
use Rattle.std.specs.Vec.Iter.{into_iter_items, into_iter_len}
use Rattle.bus_segment.specs.Stands.{WorkerView}
use Rattle.engine_runs.specs.Loop.{all_seen}
use Rattle.engine_runs.proofs.merging.all_parts.Given as goal

-- the parts of the workers so far, and then those of the others
abbrev pub invariant-loop-worker : goal.invariant-loop-worker
invariant-loop-worker g l =
    (l.parts.items ++ map (λ (w : WorkerView g.row.L.Denot). w.events) (all_seen (into_iter_items l.worker-iterator)) ≡ map (λ (w : WorkerView g.row.L.Denot). w.events) (all_seen l.fn.workers.items))
    × (into_iter_len l.worker-iterator ≡ length (into_iter_items l.worker-iterator))
