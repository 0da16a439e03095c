use Rattle.law_lanes.proofs.PartLemmas.{delayed-not_parted}
use Rattle.law_lanes.proofs.delayed_are_whole.Goals as goal

pub returns : goal.returns
returns c = delayed-not_parted
