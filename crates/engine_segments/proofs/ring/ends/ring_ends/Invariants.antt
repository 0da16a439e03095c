use Rattle.std.proofs.Common.{map}
use Rattle.engine_segments.specs.ring.Making.{RingsSoFar}
use Rattle.engine_segments.proofs.ring.ends.ring_ends.Given as goal

-- the ends of the bridges so far
abbrev pub invariant-loop-bus : goal.invariant-loop-bus
invariant-loop-bus l = RingsSoFar l.tree l.bus (map (λ at. at.items) l.ends.items)
