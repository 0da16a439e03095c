use Rattle.law_lanes.proofs.order.OnceLemmas.{ends_once, turn_not_ended}
use Rattle.law_lanes.proofs.order.operations_end_once.Goals as goal

pub returns : goal.returns
returns c = record { once = ends_once; turn = turn_not_ended }
