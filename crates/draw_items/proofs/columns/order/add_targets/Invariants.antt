use Rattle.std.proofs.Common.{◌≡◌, ◌++◌, drop}
use Rattle.draw_items.specs.columns.Order.{targets_on}
use Rattle.draw_items.proofs.columns.order.add_targets.Given as goal

-- the targets so far, and those to come
abbrev pub invariant-loop-target : goal.invariant-loop-target
invariant-loop-target l =
    l.lines.items ++ targets_on l.bus l.target (drop l.target l.board.targets) ≡ l.initial.lines.items ++ targets_on l.bus 0 l.board.targets
