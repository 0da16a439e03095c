use Rattle.std.proofs.Common.{◌≡◌, List, Option, Some, None, refl, ap, subst, sym, ◌∙◌, arith}
use Rattle.std.proofs.lemmas.List.{with_items_is}
use Rattle.std.specs.List.{position}
use Rattle.board_model.specs.Ways.{lane_back}
use Rattle.board_model.specs.declared.bridge.Place.TheVariants.{Lane as LaneOf}
use Rattle.history_model.specs.declared.item.Answer.{Answer}
use Rattle.history_model.specs.World.{same_lane}
use Rattle.bus_core.specs.port.Port.{PortView}
use Rattle.bus_core.specs.declared.given.Given.{Given}
use Rattle.bus_core.specs.declared.given.Sent.{Sent}
use Rattle.bus_core.specs.Bus.{BusView, shape_of, arrivals_at}
use Rattle.bus_core.specs.Parts.{PlaceAnswers, PlaceTurns}
use Rattle.bus_core.specs.Places.{RespondsAt, sent_over}
use Rattle.bus_core.proofs.LaneLemmas.{lane_nobody, lane_turns, lane_replies, ports_shape, ports_arrivals, ports_stay}
use Rattle.bus_core.proofs.bus.Bus.lane_answer.Goals as goal

pub returns-in-None-clause-answers : goal.returns-in-None-clause-answers
returns-in-None-clause-answers c = λ board rest.
    let was : BusView = record { bus = c.self.inside.bus; ports = c.self.inside.ports.items; masters = c.self.inside.masters.items; targets = c.self.inside.targets.items; through = c.self.inside.through } in
    let found = position (λ (port : PortView). same_lane port.lane (lane_back c.args.lane)) in
    let none : found was.ports ≡ None = sym (c.port_back.ensures ∙ ap found c.as_slice.ensures.value) ∙ c.in-None.is in
    let base = lane_nobody board was c.args.lane c.args.line c.args.op c.args.request.now rest none in
    let given = subst (λ (g : Given). PlaceAnswers board was (LaneOf c.args.lane) c.args.line c.args.op c.args.request.now rest g.answer g.over was) (sym c.nobody.ensures) base in
    subst (λ (s : BusView). PlaceAnswers board s (LaneOf c.args.lane) c.args.line c.args.op c.args.request.now rest c.nobody.result.answer c.nobody.result.over s) c.self.view_is given

pub returns-in-Some-clause-turns : goal.returns-in-Some-clause-turns
returns-in-Some-clause-turns c = λ board rest.
    let was : BusView = record { bus = c.self.inside.bus; ports = c.self.inside.ports.items; masters = c.self.inside.masters.items; targets = c.self.inside.targets.items; through = c.self.inside.through } in
    let found = position (λ (port : PortView). same_lane port.lane (lane_back c.args.lane)) in
    let some : found was.ports ≡ Some c.in-Some.place = sym (c.port_back.ensures ∙ ap found c.as_slice.ensures.value) ∙ c.in-Some.is in
    subst (λ (s : BusView). PlaceTurns board s (LaneOf c.args.lane) c.args.line c.args.op c.args.request.now rest) c.self.view_is
    (lane_turns board was c.args.lane c.args.line c.args.op c.args.request.now rest c.in-Some.place some c.if-place-line.true)

pub returns-in-Some-2-clause-shape : goal.returns-in-Some-2-clause-shape
returns-in-Some-2-clause-shape c =
    let was : BusView = record { bus = c.self.inside.bus; ports = c.self.inside.ports.items; masters = c.self.inside.masters.items; targets = c.self.inside.targets.items; through = c.self.inside.through } in
    let responds = subst (λ (old : List PortView). RespondsAt c.in-Some.place old c.args.line c.args.op c.args.request.now c.respond_at-reply.result c.respond_at-reply.new.ports) c.as_mut_slice.ensures.value c.respond_at-reply.ensures in
    let new : List PortView → BusView = λ ports. record { bus = c.self.inside.bus; ports = ports; masters = c.self.inside.masters.items; targets = c.self.inside.targets.items; through = c.self.inside.through } in
    let items = with_items_is c.self.inside.ports c.respond_at-reply.new.ports (omega arith) in
    ap (λ ports. shape_of (new ports)) items
    ∙ (ports_shape was c.in-Some.place c.args.line c.args.op c.args.request.now c.respond_at-reply.result c.respond_at-reply.new.ports responds ∙ ap shape_of c.self.view_is)

pub returns-in-Some-2-clause-arrivals : goal.returns-in-Some-2-clause-arrivals
returns-in-Some-2-clause-arrivals c =
    let was : BusView = record { bus = c.self.inside.bus; ports = c.self.inside.ports.items; masters = c.self.inside.masters.items; targets = c.self.inside.targets.items; through = c.self.inside.through } in
    let responds = subst (λ (old : List PortView). RespondsAt c.in-Some.place old c.args.line c.args.op c.args.request.now c.respond_at-reply.result c.respond_at-reply.new.ports) c.as_mut_slice.ensures.value c.respond_at-reply.ensures in
    let new : List PortView → BusView = λ ports. record { bus = c.self.inside.bus; ports = ports; masters = c.self.inside.masters.items; targets = c.self.inside.targets.items; through = c.self.inside.through } in
    let items = with_items_is c.self.inside.ports c.respond_at-reply.new.ports (omega arith) in
    ap (λ ports. arrivals_at (new ports)) items
    ∙ (ports_arrivals was c.in-Some.place c.args.line c.args.op c.args.request.now c.respond_at-reply.result c.respond_at-reply.new.ports responds ∙ ap arrivals_at c.self.view_is)

pub returns-in-Some-2-clause-answers : goal.returns-in-Some-2-clause-answers
returns-in-Some-2-clause-answers c = λ board rest.
    let was : BusView = record { bus = c.self.inside.bus; ports = c.self.inside.ports.items; masters = c.self.inside.masters.items; targets = c.self.inside.targets.items; through = c.self.inside.through } in
    let new : List PortView → BusView = λ ports. record { bus = c.self.inside.bus; ports = ports; masters = c.self.inside.masters.items; targets = c.self.inside.targets.items; through = c.self.inside.through } in
    let items = with_items_is c.self.inside.ports c.respond_at-reply.new.ports (omega arith) in
    let found = position (λ (port : PortView). same_lane port.lane (lane_back c.args.lane)) in
    let some : found was.ports ≡ Some c.in-Some.place = sym (c.port_back.ensures ∙ ap found c.as_slice.ensures.value) ∙ c.in-Some.is in
    let responds = subst (λ (old : List PortView). RespondsAt c.in-Some.place old c.args.line c.args.op c.args.request.now c.respond_at-reply.result c.respond_at-reply.new.ports) c.as_mut_slice.ensures.value c.respond_at-reply.ensures in
    let base = lane_replies board was c.args.lane c.args.line c.args.op c.args.request.now rest c.in-Some.place c.respond_at-reply.new.ports c.respond_at-reply.result c.args.stamp some responds in
    let Q : BusView → Answer → Option Sent → BusView → Type 0 = λ s answer over after. PlaceAnswers board s (LaneOf c.args.lane) c.args.line c.args.op c.args.request.now rest answer over after in
    let P : BusView → Answer → Option Sent → Type 0 = λ s answer over. Q s answer over (new c.respond_at-reply.new.ports) in
    let one = subst (λ answer. P was answer (sent_over c.in-Some.place c.args.op c.args.stamp c.respond_at-reply.result)) (sym c.as_answer.ensures) base in
    let two = subst (λ over. P was c.as_answer.result over) (sym c.sent_over.ensures) one in
    subst (λ ports. Q c.args.self.now c.as_answer.result c.sent_over.result (new ports)) (sym items) (subst (λ s. P s c.as_answer.result c.sent_over.result) c.self.view_is two)

pub returns-in-None-clause-retried : goal.returns-in-None-clause-retried
returns-in-None-clause-retried c = record { stays = λ cause is. refl }

pub returns-in-Some-2-clause-retried : goal.returns-in-Some-2-clause-retried
returns-in-Some-2-clause-retried c =
    let responds = subst (λ (old : List PortView). RespondsAt c.in-Some.place old c.args.line c.args.op c.args.request.now c.respond_at-reply.result c.respond_at-reply.new.ports) c.as_mut_slice.ensures.value c.respond_at-reply.ensures in
    let new : List PortView → BusView = λ ports. record { bus = c.self.inside.bus; ports = ports; masters = c.self.inside.masters.items; targets = c.self.inside.targets.items; through = c.self.inside.through } in
    let items = with_items_is c.self.inside.ports c.respond_at-reply.new.ports (omega arith) in
    record {
      stays = λ cause is.
          let same = ports_stay c.in-Some.place c.args.line c.args.op c.args.request.now c.args.lane c.respond_at-reply.result cause c.self.inside.ports.items c.respond_at-reply.new.ports responds (sym c.as_answer.ensures ∙ is) in
          ap new (items ∙ same) ∙ c.self.view_is;
    }
