use Rattle.bus_segment.proofs.GoLemmas.{segment_none, segment_further}
use Rattle.bus_segment.proofs.segments_go_on.Goals as goal

pub returns-clause-nothing : goal.returns-clause-nothing
returns-clause-nothing c = segment_none

pub returns-clause-further : goal.returns-clause-further
returns-clause-further c = segment_further
