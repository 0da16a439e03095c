use Rattle.std.proofs.Common.{subst, ap, ◌∙◌, arith}
use Rattle.bus_core.specs.port.Port.{PortView}
use Rattle.bus_core.specs.port.Calls.{PortReplies}
use Rattle.bus_face.specs.State.{FaceState}
use Rattle.bus_core.proofs.port.ReplyLemmas.{port_replies, replied_arrivals, replied_retried}
use Rattle.bus_core.proofs.port.port.Port.respond.Goals as goal

pub invariant_of-self : goal.invariant_of-self
invariant_of-self c =
    let same = replied_arrivals c.self.inside.face c.args.tag c.args.op c.args.request.now c.respond.result c.respond.new.self c.respond.ensures.kept in
    (omega (arith, same, c.self.invariant.0), omega (arith, same, c.self.invariant.1))

pub returns-clause-arrivals : goal.returns-clause-arrivals
returns-clause-arrivals c =
    replied_arrivals c.self.inside.face c.args.tag c.args.op c.args.request.now c.respond.result c.respond.new.self c.respond.ensures.kept
    ∙ ap (λ (port : PortView). port.face.arrivals) c.self.view_is

pub returns-clause-replies : goal.returns-clause-replies
returns-clause-replies c =
    let was : PortView = record { lane = c.self.inside.lane; face = c.self.inside.face; marks = c.self.inside.marks } in
    let new : PortView = record { lane = c.self.inside.lane; face = c.respond.new.self; marks = c.self.inside.marks } in
    subst (λ (old : PortView). PortReplies old c.args.tag c.args.op c.args.request.now c.respond.result new) c.self.view_is
    (port_replies was c.respond.new.self c.args.tag c.args.op c.args.request.now c.respond.result c.respond.ensures.lanes)

pub returns-clause-retried : goal.returns-clause-retried
returns-clause-retried c =
    record {
      stays = λ cause is.
          let new : FaceState → PortView = λ face. record { lane = c.self.inside.lane; face = face; marks = c.self.inside.marks } in
          let face = replied_retried c.self.inside.face c.args.tag c.args.op c.args.request.now c.respond.result c.respond.new.self cause c.respond.ensures.kept is in
          ap new face ∙ c.self.view_is;
    }
