use Rattle.std.proofs.Common.{take}
use Rattle.draw_items.specs.columns.Kept.{IsMost}
use Rattle.draw_items.proofs.columns.most.most_of.Given as goal

-- the tracks of the items so far
abbrev pub invariant-loop-item : goal.invariant-loop-item
invariant-loop-item l = IsMost (take l.item-index l.items) l.most
