use Rattle.std.proofs.Common.{◌∙◌}
use Rattle.bus_agents.proofs.marks.MarkLemmas.{found_among}
use Rattle.bus_agents.proofs.marks.lane_marks.has.Goals as goal

pub returns : goal.returns
returns c = c.is_ok.ensures.value ∙ found_among c.args.numbers.now c.args.number c.binary_search.result c.requires c.binary_search.ensures.position
