use Rattle.std.proofs.Common.{subst}
use Rattle.bus_face.specs.Arrivals.{carried}
use Rattle.bus_core.specs.port.Port.{PortView}
use Rattle.bus_core.specs.port.Calls.{PortTests}
use Rattle.bus_core.proofs.port.PortLemmas.{port_tests}
use Rattle.bus_core.proofs.port.port.Port.lawful.Goals as goal

pub returns-clause-lawful : goal.returns-clause-lawful
returns-clause-lawful c =
    let was : PortView = record { lane = c.self.inside.lane; face = c.self.inside.face; marks = c.self.inside.marks } in
    subst (λ (port : PortView). PortTests port (carried c.args.item.now) c.lawful.result) c.self.view_is
    (port_tests was (carried c.args.item.now) c.lawful.result c.lawful.ensures.lanes)
