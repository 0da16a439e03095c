use Rattle.law_safe.proofs.lost.LostLemmas.{lost_lands}
use Rattle.law_safe.proofs.lost.lost_never_lands.Goals as goal

pub returns : goal.returns
returns c = λ board table h w aborted word valid run said. lost_lands board table h w aborted word valid run said
