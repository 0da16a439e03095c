use Rattle.std.proofs.Common.{ap, ◌∙◌}
use Rattle.bus_core.specs.Calls.{stamp_of}
use Rattle.bus_core.proofs.NoteLemmas.{answer_stamp}
use Rattle.bus_core.proofs.places.end_at.Goals as goal

pub returns-clause-stamped : goal.returns-clause-stamped
returns-clause-stamped c = ap stamp_of c.ended.ensures.back ∙ answer_stamp c.args.offer.now c.args.outcome c.args.stamp
