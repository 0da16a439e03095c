use Rattle.history_model.specs.Runs.{history_of}
use Rattle.history_model.specs.Left.{left_of}
use Rattle.observe_told.specs.Woven.{events_of}
use Rattle.observe_order.specs.Going.{IsGoing}
use Rattle.observe_order.proofs.going.all_arrive.Given as goal

-- the run goes on
abbrev pub invariant-loop-arrival : goal.invariant-loop-arrival
invariant-loop-arrival l = IsGoing l.tree l.run l.course

abbrev pub decreases-loop-arrival : goal.decreases-loop-arrival
decreases-loop-arrival l = left_of l.tree (history_of (events_of l.run))
