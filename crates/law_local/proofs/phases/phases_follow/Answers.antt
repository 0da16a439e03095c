use Rattle.law_local.proofs.phases.EngineLemmas.{next_engine}
use Rattle.law_local.proofs.phases.phases_follow.Goals as goal

pub returns : goal.returns
returns c = λ carries stamp_of board received hand got sent next kept part worked took crosses none.
    next_engine carries stamp_of board received hand got sent part worked next kept took crosses none
