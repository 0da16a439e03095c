use Rattle.history_model.specs.Runs.{history_of}
use Rattle.history_model.specs.Left.{left_of}
use Rattle.judge_fill.specs.Arriving.{Arriving}
use Rattle.judge_fill.proofs.arriving.all_arrive.Given as goal

-- arrivals went on so far
abbrev pub invariant-loop-arrival : goal.invariant-loop-arrival
invariant-loop-arrival l = Arriving l.tree (history_of l.fn.whole.items) l.whole.items l.course

abbrev pub decreases-loop-arrival : goal.decreases-loop-arrival
decreases-loop-arrival l = left_of l.tree (history_of l.whole.items)
