use Rattle.std.proofs.Common.{◌+◌, length}
use Rattle.board_writes.specs.Rows.{table_of}
use Rattle.safe_said.proofs.RunLemmas.{Merging}
use Rattle.safe_said.proofs.landing.merged.Given as goal

-- those that are put are the first of all, and these are left
abbrev pub invariant-loop-ahead : goal.invariant-loop-ahead
invariant-loop-ahead l = Merging l.board (table_of l.table) l.run l.list l.all.items l.ahead l.behind

abbrev pub decreases-loop-ahead : goal.decreases-loop-ahead
decreases-loop-ahead l = length l.ahead + length l.behind
