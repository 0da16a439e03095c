use Rattle.std.proofs.Common.{◌≡◌, ℕ, List, map, Option, Some, ap, subst, sym, ◌∙◌, arith, slice_get, IfSome}
use Rattle.std.proofs.lemmas.List.{with_items_is}
use Rattle.board_model.specs.declared.bridge.Lane.{Lane as BridgeLane}
use Rattle.history_model.specs.World.{lane_outcome}
use Rattle.bus_core.specs.port.Port.{PortView}
use Rattle.bus_core.specs.Bus.{BusView, Shape, shape_of, arrivals_at}
use Rattle.bus_core.specs.Parts.{TellsLane}
use Rattle.bus_core.specs.Places.{EndsAt}
use Rattle.bus_core.proofs.ListLemmas.{one_map}
use Rattle.bus_core.proofs.OfferLemmas.{one_ended}
use Rattle.bus_core.proofs.bus.Bus.tell_lane.Goals as goal

pub returns-in-Some-clause-shape : goal.returns-in-Some-clause-shape
returns-in-Some-clause-shape c =
    let was : BusView = record { bus = c.self.inside.bus; ports = c.self.inside.ports.items; masters = c.self.inside.masters.items; targets = c.self.inside.targets.items; through = c.self.inside.through } in
    let f : PortView → BridgeLane = λ port. port.lane in
    let S : List BridgeLane → Shape = λ lanes. record { bus = was.bus; lanes = lanes; masters = (shape_of was).masters; targets = (shape_of was).targets } in
    let ends = subst (λ (old : List PortView). EndsAt c.args.place old c.args.offer.now c.in-Some.outcome c.end_at-item.new.ports c.end_at-item.result) c.as_mut_slice.ensures.value c.end_at-item.ensures.ends in
    let items = with_items_is c.self.inside.ports c.end_at-item.new.ports (omega arith) in
    ap S (ap (map f) items ∙ one_map f c.args.place was.ports c.end_at-item.new.ports ends.before ends.after ends.one ends.lane) ∙ ap shape_of c.self.view_is

pub returns-in-Some-clause-arrivals : goal.returns-in-Some-clause-arrivals
returns-in-Some-clause-arrivals c =
    let was : BusView = record { bus = c.self.inside.bus; ports = c.self.inside.ports.items; masters = c.self.inside.masters.items; targets = c.self.inside.targets.items; through = c.self.inside.through } in
    let f : PortView → ℕ = λ port. port.face.arrivals in
    let ends = subst (λ (old : List PortView). EndsAt c.args.place old c.args.offer.now c.in-Some.outcome c.end_at-item.new.ports c.end_at-item.result) c.as_mut_slice.ensures.value c.end_at-item.ensures.ends in
    let items = with_items_is c.self.inside.ports c.end_at-item.new.ports (omega arith) in
    ap (map f) items ∙ (one_map f c.args.place was.ports c.end_at-item.new.ports ends.before ends.after ends.one ends.arrivals ∙ ap arrivals_at c.self.view_is)

pub returns-in-Some-clause-tells : goal.returns-in-Some-clause-tells
returns-in-Some-clause-tells c =
    let was : BusView = record { bus = c.self.inside.bus; ports = c.self.inside.ports.items; masters = c.self.inside.masters.items; targets = c.self.inside.targets.items; through = c.self.inside.through } in
    let new : List PortView → BusView = λ ports. record { bus = c.self.inside.bus; ports = ports; masters = c.self.inside.masters.items; targets = c.self.inside.targets.items; through = c.self.inside.through } in
    let ends = subst (λ (old : List PortView). EndsAt c.args.place old c.args.offer.now c.in-Some.outcome c.end_at-item.new.ports c.end_at-item.result) c.as_mut_slice.ensures.value c.end_at-item.ensures.ends in
    let items = with_items_is c.self.inside.ports c.end_at-item.new.ports (omega arith) in
    let there : slice_get c.args.self.now.ports c.args.place ≡ Some ends.before = ap (λ (s : BusView). slice_get s.ports c.args.place) (sym c.self.view_is) ∙ ends.one.was in
    let lane : c.lane_of-lane.result ≡ ends.before.lane = subst (λ (found : Option PortView). IfSome found (λ port. c.lane_of-lane.result ≡ port.lane)) there c.lane_of-lane.ensures in
    let outcome : lane_outcome c.args.board.now ends.before.lane c.args.offer.now.op c.args.step ≡ Some c.in-Some.outcome =
    subst (λ (l : BridgeLane). lane_outcome c.args.board.now l c.args.offer.now.op c.args.step ≡ Some c.in-Some.outcome) lane (sym c.lane_outcome.ensures ∙ c.in-Some.is) in
    let base = one_ended c.args.board.now c.args.place c.args.offer.now c.args.step c.in-Some.outcome was c.end_at-item.new.ports c.end_at-item.result ends outcome in
    let P : BusView → BusView → Type 0 = λ s after. TellsLane c.args.board.now c.args.place c.args.offer.now c.args.step s (Some (record { place = c.args.place; item = c.end_at-item.result })) after in
    subst (λ ports. P c.args.self.now (new ports)) (sym items) (subst (λ s. P s (new c.end_at-item.new.ports)) c.self.view_is base)
