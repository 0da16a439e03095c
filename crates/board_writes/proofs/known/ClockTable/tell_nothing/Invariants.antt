use Rattle.std.proofs.Common.{ℕ, ◌<◌, ◌≤◌}
use Rattle.board_writes.specs.Rows.{number, raised_at, lesser}
use Rattle.board_writes.specs.Looks.{past_at}
use Rattle.board_writes.proofs.known.ClockTable.tell_nothing.Given as goal

-- of those so far one of the two knows no more
abbrev pub invariant-loop-other : goal.invariant-loop-other
invariant-loop-other l = (k : ℕ) → k < l.other → lesser (past_at (number l.ones k) l.first k) (past_at (number l.others k) l.second k) ≤ raised_at (number l.known k) l.then k
