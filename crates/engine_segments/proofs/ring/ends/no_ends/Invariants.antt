use Rattle.std.proofs.Common.{◌≡◌, [], map, replicate}
use Rattle.engine_segments.proofs.ring.ends.no_ends.Given as goal

-- no end on any of them
abbrev pub invariant-loop-bus : goal.invariant-loop-bus
invariant-loop-bus l = map (λ at. at.items) l.ends.items ≡ replicate l._bus []
