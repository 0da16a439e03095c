use Rattle.law_local.proofs.StayLemmas.{other_stays}
use Rattle.law_local.proofs.other_buses_stay.Goals as goal

pub returns : goal.returns
returns c = other_stays
