use Rattle.law_lanes.proofs.PresentedLemmas.{op_there}
use Rattle.law_lanes.proofs.presented.Goals as goal

pub returns : goal.returns
returns c = op_there
