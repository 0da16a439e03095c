use Rattle.std.proofs.Common.{◌≡◌, length, map}
use Rattle.std.specs.Vec.Iter.{into_iter_items, into_iter_len}
use Rattle.engine_segments.specs.First.{worker_of}
use Rattle.engine_segments.proofs.SegmentLemmas.{AreSoFar}
use Rattle.engine_segments.proofs.first.segments.Given as goal

-- a segment for each of the first buses, with the first ends
abbrev pub invariant-loop-at : goal.invariant-loop-at
invariant-loop-at g l =
    AreSoFar l.tree (map (λ at. at.items) l.fn.ends.items) (map (λ at. at.items) (into_iter_items l.at-iterator)) (map worker_of l.segments.items)
    × (into_iter_len l.at-iterator ≡ length (into_iter_items l.at-iterator))
