use Rattle.law_bound.proofs.FallLemmas.{each_lowers}
use Rattle.law_bound.proofs.left_falls.Goals as goal

pub returns : goal.returns
returns c = each_lowers c.posted_events_lower_left.ensures c.delayed_events_lower_left.ensures
