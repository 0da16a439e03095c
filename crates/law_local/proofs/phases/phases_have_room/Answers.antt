use Rattle.law_local.proofs.phases.EngineLemmas.{phase_room}
use Rattle.law_local.proofs.phases.phases_have_room.Goals as goal

pub returns : goal.returns
returns c = λ carries stamp_of board received hand got sent part lane bridge kept kept_back valid worked some order order_back.
    phase_room carries stamp_of board received hand got sent part worked valid lane bridge kept kept_back some order order_back
