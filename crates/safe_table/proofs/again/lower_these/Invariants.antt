use Rattle.safe_table.specs.Bounds.{BoundsAll, Fell}
use Rattle.safe_table.proofs.again.lower_these.Given as goal

-- no consistent table is above it
abbrev pub invariant-loop-turn : goal.invariant-loop-turn
invariant-loop-turn l = Fell l.initial.table l.table l.fell × BoundsAll l.tree l.table
