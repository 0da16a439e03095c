use Rattle.safe_table.specs.Bounds.{BoundsAll, Fell}
use Rattle.safe_table.proofs.fronts.lower_round.Given as goal

-- no consistent table is above it
abbrev pub invariant-loop-front : goal.invariant-loop-front
invariant-loop-front l = Fell l.initial.table l.table l.fell × BoundsAll l.tree l.table
