use Rattle.law_bound.proofs.FallLemmas.{follow_left, run_bounded}
use Rattle.law_bound.proofs.runs_end.Goals as goal

pub returns-clause-follow : goal.returns-clause-follow
returns-clause-follow c = follow_left c.left_falls.ensures

pub returns-clause-bounded : goal.returns-clause-bounded
returns-clause-bounded c = run_bounded c.left_falls.ensures
