use Rattle.std.proofs.Common.{◌≡◌, ◌+◌, length}
use Rattle.engine_runs.proofs.FirstLemmas.{AreAboveSoFar}
use Rattle.engine_runs.proofs.first.all_above.Given as goal

-- the bridges to the buses so far
abbrev pub invariant-loop-place : goal.invariant-loop-place
invariant-loop-place l = AreAboveSoFar l.board l.above.items × (l.place ≡ length l.above.items + 1)
