use Rattle.std.proofs.Common.{◌≡◌, [], map, take}
use Rattle.engine_segments.specs.First.{lanes_to, buses_of}
use Rattle.engine_segments.proofs.plain.plain_ends.Given as goal

-- the ends on the buses so far
abbrev pub invariant-loop-bus : goal.invariant-loop-bus
invariant-loop-bus l =
    map (λ at. at.items) l.ends.items ≡ map (λ bus. map (λ lane. record { got = []; hand = []; sent = [] }) (lanes_to l.tree bus)) (take l.bus-index (buses_of l.tree))
