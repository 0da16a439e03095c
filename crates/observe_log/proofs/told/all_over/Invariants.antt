use Rattle.observe_log.specs.Loops.{OverSo}
use Rattle.observe_log.proofs.told.all_over.Given as goal

-- the lines so far are shown
abbrev pub invariant-loop-n : goal.invariant-loop-n
invariant-loop-n l = OverSo l.log l.shown l.n
