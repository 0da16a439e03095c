use Rattle.bus_face.proofs.EndLemmas.{ends_on_lanes}
use Rattle.bus_face.proofs.face.Face.ended.Goals as goal

pub returns-clause-lanes : goal.returns-clause-lanes
returns-clause-lanes c = ends_on_lanes c.args.self.now c.args.offer.now c.args.outcome c.args.stamp c.leave.new.self c.answer.result c.requires c.leave.ensures c.answer.ensures
