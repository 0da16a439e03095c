use Rattle.std.proofs.Common.{◌≡◌, ◌++◌, take}
use Rattle.lane_ends.proofs.ring.lane.append.Given as goal

abbrev pub invariant-loop-item : goal.invariant-loop-item
invariant-loop-item l = l.hand.items ≡ l.fn.hand.items ++ take l.item-index l.items
