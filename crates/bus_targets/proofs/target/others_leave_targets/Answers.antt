use Rattle.bus_targets.proofs.EventLemmas.{stands_elsewhere}
use Rattle.bus_targets.proofs.target.others_leave_targets.Goals as goal

pub returns : goal.returns
returns c = λ board p t e apart stands. stands_elsewhere board p t e apart stands
