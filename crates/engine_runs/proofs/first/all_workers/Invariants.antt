use Rattle.std.proofs.Common.{◌≡◌, ◌++◌, length, map}
use Rattle.std.specs.Vec.Iter.{into_iter_items, into_iter_len}
use Rattle.engine_segments.specs.First.{worker_of}
use Rattle.engine_runs.specs.Loop.{all_seen}
use Rattle.engine_runs.proofs.first.all_workers.Given as goal

-- the workers so far, and then the segments that are left
abbrev pub invariant-loop-segment : goal.invariant-loop-segment
invariant-loop-segment g l =
    (all_seen l.workers.items ++ map (worker_of {End = g.row.L.Denot}) (into_iter_items l.segment-iterator) ≡ map (worker_of {End = g.row.L.Denot}) l.fn.segments.items)
    × (into_iter_len l.segment-iterator ≡ length (into_iter_items l.segment-iterator))
