use Rattle.bus_segment.proofs.ActLemmas.{arrival_goes}
use Rattle.bus_segment.proofs.arrivals_go_on.Goals as goal

pub returns : goal.returns
returns c = arrival_goes
