use Rattle.std.proofs.Common.{◌≤◌}
use Rattle.board_writes.specs.Falls.{sum_all}
use Rattle.safe_table.specs.Bounds.{BoundsAll}
use Rattle.safe_table.proofs.again.lower_again.Given as goal

-- no consistent table is above it, and no number rose
abbrev pub invariant-loop-again : goal.invariant-loop-again
invariant-loop-again l = BoundsAll l.tree l.table × (sum_all l.table ≤ sum_all l.fn.table)

abbrev pub decreases-loop-again : goal.decreases-loop-again
decreases-loop-again l = sum_all l.table
