use Rattle.law_bound.proofs.posted.EventLemmas.{events_lower}
use Rattle.law_bound.proofs.posted.posted_events_lower_left.Goals as goal

pub returns : goal.returns
returns c = λ board h e valid run is. events_lower board valid h run.1 e run.0 is
