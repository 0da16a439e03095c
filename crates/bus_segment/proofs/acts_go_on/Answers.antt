use Rattle.bus_segment.proofs.ActLemmas.{act_goes}
use Rattle.bus_segment.proofs.acts_go_on.Goals as goal

pub returns : goal.returns
returns c = act_goes
