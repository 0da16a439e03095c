use Rattle.law_lanes.proofs.order.MasterLemmas.{Owned-run, standing_owned, flying_owned}
use Rattle.law_lanes.proofs.order.posted_writes_are_masters.Goals as goal

pub returns : goal.returns
returns c = record { accepted = λ board h lane run. Owned-run board h run lane; stands = standing_owned; flying = flying_owned }
