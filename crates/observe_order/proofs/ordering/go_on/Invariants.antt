use Rattle.observe_order.specs.Going.{HasLanded}
use Rattle.observe_order.proofs.ordering.go_on.Given as goal

-- the run goes on
abbrev pub invariant-loop-act : goal.invariant-loop-act
invariant-loop-act l = HasLanded l.tree l.run l.course
