use Rattle.lane_ends.specs.ring.Ends.{StillSent}
use Rattle.lane_ends.proofs.ring.outward.Outward.push_waiting.Given as goal

abbrev pub invariant-loop : goal.invariant-loop
invariant-loop l = StillSent l.fn.self l.self
