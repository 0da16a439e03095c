use Rattle.board_writes.specs.Falls.{sum_all}
use Rattle.safe_table.specs.Bounds.{BoundsAll}
use Rattle.safe_table.proofs.fronts.lower_rounds.Given as goal

-- no consistent table is above it
abbrev pub invariant-loop-fell : goal.invariant-loop-fell
invariant-loop-fell l = BoundsAll l.tree l.table

abbrev pub decreases-loop-fell : goal.decreases-loop-fell
decreases-loop-fell l = sum_all l.table
