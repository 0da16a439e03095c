use Rattle.history_model.specs.Runs.{history_of}
use Rattle.history_model.specs.Left.{left_of}
use Rattle.judge_adverse.proofs.EarlyLemmas.{RunsSoFar}
use Rattle.judge_adverse.proofs.run.to_the_end.Given as goal

-- the write was held back so far
abbrev pub invariant-loop-event : goal.invariant-loop-event
invariant-loop-event l = RunsSoFar l.tree l.pair l.ring l.course l.events.items l.ended

abbrev pub decreases-loop-event : goal.decreases-loop-event
decreases-loop-event l = left_of l.tree (history_of l.events.items)
