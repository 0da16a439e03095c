use Rattle.bus_segment.proofs.turns.AskLemmas.{asked_both}
use Rattle.bus_segment.proofs.turns.lines.lines.Goals as goal

pub returns : goal.returns
returns c = asked_both c.args.bus.now c.lane_lines.result c.master_lines.result c.requires.ports c.lane_lines.ensures c.master_lines.ensures
