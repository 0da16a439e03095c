use Rattle.bus_face.proofs.EndLemmas.{offers_on_lanes}
use Rattle.bus_face.proofs.face.Face.offers.Goals as goal

pub returns-clause-lanes : goal.returns-clause-lanes
returns-clause-lanes c = offers_on_lanes c.args.self.now c.all_offers.result.items c.all_offers.ensures
