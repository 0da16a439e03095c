use Rattle.law_lanes.proofs.order.OrderRunLemmas.{InOrder-run}
use Rattle.law_lanes.proofs.order.posts_keep_their_order.Goals as goal

pub returns : goal.returns
returns c = λ board h lane run. InOrder-run board h run lane
