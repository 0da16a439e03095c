use Rattle.law_lanes.proofs.order.BalanceLemmas.{OnePost-run}
use Rattle.law_lanes.proofs.order.posts_are_one.Goals as goal

pub returns : goal.returns
returns c = OnePost-run
