use Rattle.std.proofs.Common.{◌≡◌, ◌++◌, take, drop}
use Rattle.rtrb.specs.Ring.{received, known_items, SameConsumer}
use Rattle.lane_ends.proofs.ring.lane.pop_all.Given as goal

-- as many were popped as the count says, from the front of what was known
abbrev pub invariant-loop : goal.invariant-loop
invariant-loop l =
    record {
      left : known_items l.ring ≡ drop l.counter (known_items l.fn.ring);
      popped : received l.ring ≡ received l.fn.ring ++ take l.counter (known_items l.fn.ring);
      put : l.hand.items ≡ l.fn.hand.items ++ take l.counter (known_items l.fn.ring);
      same : SameConsumer l.fn.ring l.ring;
    }
