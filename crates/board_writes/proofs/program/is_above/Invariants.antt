use Rattle.std.proofs.Common.{ℕ, ◌<◌, ◌≤◌}
use Rattle.board_writes.specs.Rows.{number, raised_at}
use Rattle.board_writes.proofs.program.is_above.Given as goal

-- no more is known of those so far
abbrev pub invariant-loop-other : goal.invariant-loop-other
invariant-loop-other l = (k : ℕ) → k < l.other → number l.numbers k ≤ raised_at (number l.before k) l.op k
