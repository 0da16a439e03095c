use Rattle.std.proofs.Common.{◌≡◌, ◌++◌, map}
use Rattle.std.specs.List.{filter, range_with_len}
use Rattle.engine_segments.specs.First.{is_below, own_lane, up_from}
use Rattle.engine_segments.proofs.order.lanes_to.Given as goal

-- the lane of the bus's own bridge, and those from below so far
abbrev pub invariant-loop-child : goal.invariant-loop-child
invariant-loop-child l = l.lanes.items ≡ own_lane l.board l.bus ++ map up_from (filter (is_below l.board l.bus) (range_with_len 0 l.child))
