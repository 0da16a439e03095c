use Rattle.std.proofs.Common.{◌≡◌}
use Rattle.std.specs.List.{range_with_len}
use Rattle.draw_items.proofs.columns.order.lower_buses.Given as goal

-- so many from 1 on
abbrev pub invariant-loop-above : goal.invariant-loop-above
invariant-loop-above l = l.buses.items ≡ range_with_len 1 l.above
