use Rattle.std.proofs.Common.{arith}
use Rattle.bus_segment.proofs.turns.AskLemmas.{lane_silent, none_listed}
use Rattle.bus_segment.proofs.turns.lines.lane_presents.Goals as goal

pub returns : goal.returns
returns c = λ none.
    lane_silent c.args.bus.now c.args.place c.offers.result.items (omega (arith, c.requires.ports, c.requires.place)) c.offers.ensures.offers (none_listed c.offers.result.items c.is_empty.result c.is_empty.ensures none)
