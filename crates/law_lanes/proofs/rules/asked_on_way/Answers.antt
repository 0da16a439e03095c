use Rattle.law_lanes.proofs.rules.WayLemmas.{asked_way}
use Rattle.law_lanes.proofs.rules.asked_on_way.Goals as goal

pub returns : goal.returns
returns c = asked_way
