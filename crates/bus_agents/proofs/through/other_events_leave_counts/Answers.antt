use Rattle.bus_agents.proofs.ThroughLemmas.{through_stays}
use Rattle.bus_agents.proofs.through.other_events_leave_counts.Goals as goal

pub returns : goal.returns
returns c = λ board p gone e none stands. through_stays board p gone e none stands
