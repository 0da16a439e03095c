use Rattle.std.proofs.Common.{◌≡◌, take, map}
use Rattle.engine_phases.proofs.merging.strip.Given as goal

-- the events before
abbrev pub invariant-loop-stamped : goal.invariant-loop-stamped
invariant-loop-stamped l = l.events.items ≡ map (λ stamped. stamped.event) (take l.stamped-index l.sorted)
