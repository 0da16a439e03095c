use Rattle.std.proofs.Common.{◌≤◌, length}
use Rattle.safe_table.specs.Bounds.{Fell, LowersPolls}
use Rattle.safe_table.proofs.fall.lower_all.Given as goal

-- the polls so far
abbrev pub invariant-loop-op : goal.invariant-loop-op
invariant-loop-op l = (l.op-index ≤ length l.ops) × Fell l.initial.table l.table l.fell × LowersPolls l.tree l.ops l.op-index l.initial.table l.table l.fell
