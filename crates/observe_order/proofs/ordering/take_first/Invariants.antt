use Rattle.observe_order.specs.Going.{HasLanded}
use Rattle.observe_order.proofs.ordering.take_first.Given as goal

-- the run goes on
abbrev pub invariant-loop-candidate : goal.invariant-loop-candidate
invariant-loop-candidate l = HasLanded l.tree l.run l.course
