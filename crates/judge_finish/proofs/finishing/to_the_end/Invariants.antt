use Rattle.history_model.specs.Runs.{history_of}
use Rattle.history_model.specs.Left.{left_of}
use Rattle.judge_next.specs.Course.{IsCourse}
use Rattle.judge_finish.proofs.GoingLemmas.{WentOn}
use Rattle.judge_finish.proofs.finishing.to_the_end.Given as goal

-- the run went on by its next events so far
abbrev pub invariant-loop-event : goal.invariant-loop-event
invariant-loop-event l = WentOn l.tree l.fn.events l.whole.items × IsCourse l.tree (history_of l.whole.items) l.course

abbrev pub decreases-loop-event : goal.decreases-loop-event
decreases-loop-event l = left_of l.tree (history_of l.whole.items)
