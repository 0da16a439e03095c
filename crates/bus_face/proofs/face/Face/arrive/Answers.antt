use Rattle.bus_face.specs.Arrivals.{carried}
use Rattle.bus_face.proofs.ArrivalLemmas.{arrives_on_lanes}
use Rattle.bus_face.proofs.face.Face.arrive.Goals as goal

pub returns-clause-lanes : goal.returns-clause-lanes
returns-clause-lanes c = arrives_on_lanes c.args.self.now (carried c.args.item) c.args.request c.args.mark c.args.stamp c.bring.new.self c.bring.result c.bring.ensures.kept c.bring.ensures.back
