use Rattle.std.proofs.Common.{subst}
use Rattle.bus_core.specs.port.Port.{PortView}
use Rattle.bus_core.specs.port.Calls.{PortEnds}
use Rattle.bus_core.proofs.port.ReplyLemmas.{port_ends}
use Rattle.bus_core.proofs.port.port.Port.ended.Goals as goal

pub returns-clause-ends : goal.returns-clause-ends
returns-clause-ends c =
    let was : PortView = record { lane = c.self.inside.lane; face = c.self.inside.face; marks = c.self.inside.marks } in
    let new : PortView = record { lane = c.self.inside.lane; face = c.ended.new.self; marks = c.self.inside.marks } in
    subst (λ (old : PortView). PortEnds old c.args.offer.now c.args.outcome new c.ended.result) c.self.view_is
    (port_ends was c.ended.new.self c.args.offer.now c.args.outcome c.ended.result c.ended.ensures.lanes)
