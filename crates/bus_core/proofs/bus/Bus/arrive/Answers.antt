use Rattle.std.proofs.Common.{◌≡◌, ℕ, ◌+◌, ◌&&◌, true, false, List, map, Option, ap, subst, sym, ◌∙◌, arith}
use Rattle.std.proofs.lemmas.Bool.{and_parts}
use Rattle.std.proofs.lemmas.List.{with_items_is}
use Rattle.board_model.specs.declared.bridge.Lane.{Lane as BridgeLane}
use Rattle.pci_command.specs.declared.request.Request.{Request}
use Rattle.bus_face.specs.Arrivals.{carried}
use Rattle.bus_core.specs.port.Port.{PortView}
use Rattle.bus_core.specs.Bus.{BusView, Shape, shape_of, arrivals_at}
use Rattle.bus_core.specs.Places.{OneChanged, ComesAt}
use Rattle.bus_core.specs.Serves.{names_its_kind, OneMoreAt, BusArrives}
use Rattle.bus_core.proofs.ListLemmas.{one_map, one_mapped}
use Rattle.bus_core.proofs.ComesLemmas.{refused, bus_arrives}
use Rattle.bus_core.proofs.bus.Bus.arrive.Goals as goal

pub returns-then-not-takes-clause-refuses : goal.returns-then-not-takes-clause-refuses
returns-then-not-takes-clause-refuses c =
    let fails : (c.takes.ensures.lawful && names_its_kind c.args.board.now c.args.self.now.bus (carried c.args.item)) ≡ false = let t = c.takes.ensures.taken_is in let f = c.if-not-takes.true in cc in
    refused c.args.board.now c.args.place c.args.self.now c.args.item c.takes.ensures.lawful c.takes.ensures.tests fails

pub returns-clause-shape : goal.returns-clause-shape
returns-clause-shape c =
    let was : BusView = record { bus = c.self.inside.bus; ports = c.self.inside.ports.items; masters = c.self.inside.masters.items; targets = c.self.inside.targets.items; through = c.self.inside.through } in
    let f : PortView → BridgeLane = λ port. port.lane in
    let S : List BridgeLane → Shape = λ lanes. record { bus = was.bus; lanes = lanes; masters = (shape_of was).masters; targets = (shape_of was).targets } in
    let comes = subst (λ (old : List PortView). ComesAt c.args.place old (carried c.args.item) c.request_for-request.result c.arrive_at.result.mark c.arrive_at.result.back c.arrive_at.new.ports) c.as_mut_slice.ensures.value c.arrive_at.ensures.comes in
    let items = with_items_is c.self.inside.ports c.arrive_at.new.ports (omega arith) in
    ap S (ap (map f) items ∙ one_map f c.args.place was.ports c.arrive_at.new.ports comes.before comes.after comes.one comes.lane) ∙ ap shape_of c.self.view_is

pub returns-clause-arrivals : goal.returns-clause-arrivals
returns-clause-arrivals c =
    let was : BusView = record { bus = c.self.inside.bus; ports = c.self.inside.ports.items; masters = c.self.inside.masters.items; targets = c.self.inside.targets.items; through = c.self.inside.through } in
    let f : PortView → ℕ = λ port. port.face.arrivals in
    let comes = subst (λ (old : List PortView). ComesAt c.args.place old (carried c.args.item) c.request_for-request.result c.arrive_at.result.mark c.arrive_at.result.back c.arrive_at.new.ports) c.as_mut_slice.ensures.value c.arrive_at.ensures.comes in
    let items = with_items_is c.self.inside.ports c.arrive_at.new.ports (omega arith) in
    let one = one_mapped f c.args.place was.ports c.arrive_at.new.ports comes.before comes.after comes.one in
    let counted : OneChanged c.args.place (map f was.ports) (map f c.arrive_at.new.ports) comes.before.face.arrivals (comes.before.face.arrivals + 1) =
    subst (λ (n : ℕ). OneChanged c.args.place (map f was.ports) (map f c.arrive_at.new.ports) comes.before.face.arrivals n) comes.arrivals one in
    let base : OneMoreAt c.args.place (arrivals_at was) (map f c.arrive_at.new.ports) = record { before = comes.before.face.arrivals; one = counted } in
    let P : List ℕ → List ℕ → Type 0 = λ old new. OneMoreAt c.args.place old new in
    subst (λ new. P (arrivals_at c.args.self.now) new) (sym (ap (map f) items)) (subst (λ old. P old (map f c.arrive_at.new.ports)) (ap arrivals_at c.self.view_is) base)

pub returns-clause-arrives : goal.returns-clause-arrives
returns-clause-arrives c =
    let was : BusView = record { bus = c.self.inside.bus; ports = c.self.inside.ports.items; masters = c.self.inside.masters.items; targets = c.self.inside.targets.items; through = c.self.inside.through } in
    let new : List PortView → BusView = λ ports. record { bus = c.self.inside.bus; ports = ports; masters = c.self.inside.masters.items; targets = c.self.inside.targets.items; through = c.self.inside.through } in
    let passes : (c.takes.ensures.lawful && names_its_kind c.args.board.now c.args.self.now.bus (carried c.args.item)) ≡ true = let t = c.takes.ensures.taken_is in let f = c.if-not-takes.false in cc in
    let kind = (and_parts c.takes.ensures.lawful (names_its_kind c.args.board.now c.args.self.now.bus (carried c.args.item)) passes).1 in
    let kind_was = subst (λ (s : BusView). names_its_kind c.args.board.now s.bus (carried c.args.item) ≡ true) (sym c.self.view_is) kind in
    let comes = subst (λ (old : List PortView). ComesAt c.args.place old (carried c.args.item) c.request_for-request.result c.arrive_at.result.mark c.arrive_at.result.back c.arrive_at.new.ports) c.as_mut_slice.ensures.value c.arrive_at.ensures.comes in
    let asked = subst (λ (r : Option Request). ComesAt c.args.place was.ports (carried c.args.item) r c.arrive_at.result.mark c.arrive_at.result.back c.arrive_at.new.ports) c.request_for-request.ensures comes in
    let items = with_items_is c.self.inside.ports c.arrive_at.new.ports (omega arith) in
    let base = bus_arrives c.args.board.now c.args.place was c.args.item c.arrive_at.result.mark c.arrive_at.result.back c.arrive_at.new.ports kind_was asked in
    let P : BusView → BusView → Type 0 = λ s after. BusArrives c.args.board.now c.args.place s c.args.item c.arrive_at.result.mark c.arrive_at.result.back after in
    subst (λ ports. P c.args.self.now (new ports)) (sym items) (subst (λ s. P s (new c.arrive_at.new.ports)) c.self.view_is base)
