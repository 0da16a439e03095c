use Rattle.std.proofs.Common.{◌≡◌, ◌++◌, drop}
use Rattle.draw_items.specs.columns.Order.{masters_on}
use Rattle.draw_items.proofs.columns.order.add_masters.Given as goal

-- the masters so far, and those to come
abbrev pub invariant-loop-master : goal.invariant-loop-master
invariant-loop-master l =
    l.lines.items ++ masters_on l.bus l.master (drop l.master l.board.masters) ≡ l.initial.lines.items ++ masters_on l.bus 0 l.board.masters
