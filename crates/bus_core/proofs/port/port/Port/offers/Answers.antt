use Rattle.std.proofs.Common.{subst}
use Rattle.bus_core.specs.port.Port.{PortView}
use Rattle.bus_core.specs.port.Calls.{PortOffers}
use Rattle.bus_core.proofs.port.ReplyLemmas.{port_offers}
use Rattle.bus_core.proofs.port.port.Port.offers.Goals as goal

pub returns-clause-offers : goal.returns-clause-offers
returns-clause-offers c =
    let was : PortView = record { lane = c.self.inside.lane; face = c.self.inside.face; marks = c.self.inside.marks } in
    subst (λ (port : PortView). PortOffers port c.offers.result.items) c.self.view_is
    (port_offers was c.offers.result.items c.offers.ensures.lanes)
