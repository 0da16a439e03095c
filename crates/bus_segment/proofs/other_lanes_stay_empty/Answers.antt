use Rattle.bus_segment.proofs.OtherLemmas.{none_elsewhere}
use Rattle.bus_segment.proofs.other_lanes_stay_empty.Goals as goal

pub returns : goal.returns
returns c = none_elsewhere
