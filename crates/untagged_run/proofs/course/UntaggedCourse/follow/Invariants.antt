use Rattle.untagged_run.proofs.FollowLemmas.{Upto}
use Rattle.untagged_run.proofs.course.UntaggedCourse.follow.Given as goal

-- what is kept stands for the events so far
abbrev pub invariant-loop-index : goal.invariant-loop-index
invariant-loop-index l = Upto l.tree l.events l.index l.self
