use Rattle.std.proofs.Common.{◌≡◌, ◌++◌, drop}
use Rattle.std.specs.List.{filter}
use Rattle.board_writes.specs.Stretches.{joined}
use Rattle.board_writes.specs.Polls.{raises_it}
use Rattle.board_writes.proofs.writers.raising.raising_in.Given as goal

-- with those of the stretches that are left they are all
abbrev pub invariant-loop-run : goal.invariant-loop-run
invariant-loop-run l = l.raising.items ++ filter (raises_it l.awaited) (joined (drop l.run-index l.runs)) ≡ filter (raises_it l.awaited) (joined l.runs)
