use Rattle.std.proofs.Common.{subst}
use Rattle.bus_face.specs.Arrivals.{carried}
use Rattle.history_model.specs.declared.item.Carried.{Carried}
use Rattle.bus_agents.specs.marks.Marks.{MarksArrival}
use Rattle.bus_core.specs.port.Port.{PortView}
use Rattle.bus_core.specs.port.Calls.{PortArrives}
use Rattle.bus_core.proofs.port.PortLemmas.{port_arrives}
use Rattle.bus_core.proofs.port.port.Port.arrive.Goals as goal

pub returns-clause-arrives : goal.returns-clause-arrives
returns-clause-arrives c = λ board.
    let was : PortView = record { lane = c.self.inside.lane; face = c.self.inside.face; marks = c.self.inside.marks } in
    let new : PortView = record { lane = c.self.inside.lane; face = c.arrive-back.new.self; marks = c.mark-mark.new.self } in
    let marking = subst (λ (item : Carried). MarksArrival c.self.inside.marks item c.mark-mark.result c.mark-mark.new.self) c.carried.ensures c.mark-mark.ensures.arrival in
    subst (λ (old : PortView). PortArrives board old (carried c.args.item) c.args.request c.mark-mark.result new c.arrive-back.result) c.self.view_is
    (port_arrives board was (carried c.args.item) c.args.request c.mark-mark.result c.arrive-back.new.self c.mark-mark.new.self c.arrive-back.result marking c.arrive-back.ensures.lanes)
