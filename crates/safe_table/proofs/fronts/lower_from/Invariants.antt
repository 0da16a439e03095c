use Rattle.std.proofs.Common.{◌-◌, length}
use Rattle.safe_table.specs.Bounds.{BoundsAll, Fell}
use Rattle.safe_table.proofs.fronts.lower_from.Given as goal

-- no consistent table is above it
abbrev pub invariant-loop-op : goal.invariant-loop-op
invariant-loop-op l = Fell l.initial.table l.table l.fell × BoundsAll l.tree l.table

abbrev pub decreases-loop-op : goal.decreases-loop-op
decreases-loop-op l = length l.ops - l.front.place
