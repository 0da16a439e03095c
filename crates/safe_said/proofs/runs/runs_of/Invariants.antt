use Rattle.std.proofs.Common.{◌≡◌, ◌++◌, length}
use Rattle.board_writes.specs.Rows.{table_of}
use Rattle.board_writes.specs.Stretches.{joined}
use Rattle.safe_said.specs.Landing.{AreChained}
use Rattle.safe_said.proofs.runs.runs_of.Given as goal

-- the first writes so far are runs
abbrev pub invariant-loop-left : goal.invariant-loop-left
invariant-loop-left l = record {
  all : joined l.runs.items ++ l.left ≡ l.writes;
  each : AreChained l.board (table_of l.table) l.runs.items;
}

abbrev pub decreases-loop-left : goal.decreases-loop-left
decreases-loop-left l = length l.left
