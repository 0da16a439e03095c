use Rattle.std.proofs.Common.{◌≡◌, ◌==◌, List, Some, None, refl, ap, subst, sym, ◌∙◌, arith}
use Rattle.std.proofs.lemmas.List.{with_items_is}
use Rattle.std.specs.List.{position}
use Rattle.board_model.specs.declared.bridge.Place.TheVariants.{Target}
use Rattle.history_model.specs.declared.event.Step.{Step}
use Rattle.history_model.specs.declared.item.Answer.TheVariants.{Gives, Retry}
use Rattle.bus_targets.specs.State.{TargetView}
use Rattle.bus_core.specs.declared.given.Given.{Given}
use Rattle.bus_core.specs.Bus.{BusView, shape_of}
use Rattle.bus_core.specs.Parts.{PlaceAnswers}
use Rattle.bus_core.specs.Places.{AccessesAt}
use Rattle.bus_core.proofs.TargetLemmas.{target_nobody, target_accesses, targets_shape}
use Rattle.bus_core.proofs.bus.Bus.target_answer.Goals as goal

pub returns-in-None-clause-answers : goal.returns-in-None-clause-answers
returns-in-None-clause-answers c = λ line request.
    let was : BusView = record { bus = c.self.inside.bus; ports = c.self.inside.ports.items; masters = c.self.inside.masters.items; targets = c.self.inside.targets.items; through = c.self.inside.through } in
    let found = position (λ (t : TargetView). t.target == c.args.target) in
    let none : found was.targets ≡ None = sym (c.target_place.ensures ∙ ap found c.as_slice.ensures.value) ∙ c.in-None.is in
    let base = target_nobody c.args.board.now was c.args.target line c.args.op request c.args.rest.now none in
    let given = subst (λ (g : Given). PlaceAnswers c.args.board.now was (Target c.args.target) line c.args.op request c.args.rest.now g.answer g.over was) (sym c.nobody.ensures) base in
    subst (λ (s : BusView). PlaceAnswers c.args.board.now s (Target c.args.target) line c.args.op request c.args.rest.now c.nobody.result.answer c.nobody.result.over s) c.self.view_is given

pub returns-in-Some-clause-shape : goal.returns-in-Some-clause-shape
returns-in-Some-clause-shape c =
    let was : BusView = record { bus = c.self.inside.bus; ports = c.self.inside.ports.items; masters = c.self.inside.masters.items; targets = c.self.inside.targets.items; through = c.self.inside.through } in
    let accesses = subst (λ (old : List TargetView). AccessesAt c.args.board.now c.in-Some.place old c.args.rest.now c.access_at-access.result c.access_at-access.new.targets) c.as_mut_slice.ensures.value c.access_at-access.ensures in
    let new : List TargetView → BusView = λ targets. record { bus = c.self.inside.bus; ports = c.self.inside.ports.items; masters = c.self.inside.masters.items; targets = targets; through = c.note_part.new.through } in
    let items = with_items_is c.self.inside.targets c.access_at-access.new.targets (omega arith) in
    ap (λ targets. shape_of (new targets)) items
    ∙ (targets_shape c.args.board.now was c.in-Some.place c.args.rest.now c.access_at-access.result c.access_at-access.new.targets c.note_part.new.through accesses ∙ ap shape_of c.self.view_is)

pub returns-in-Some-clause-answers : goal.returns-in-Some-clause-answers
returns-in-Some-clause-answers c = λ line request.
    let was : BusView = record { bus = c.self.inside.bus; ports = c.self.inside.ports.items; masters = c.self.inside.masters.items; targets = c.self.inside.targets.items; through = c.self.inside.through } in
    let new : List TargetView → BusView = λ targets. record { bus = c.self.inside.bus; ports = c.self.inside.ports.items; masters = c.self.inside.masters.items; targets = targets; through = c.note_part.new.through } in
    let accesses = subst (λ (old : List TargetView). AccessesAt c.args.board.now c.in-Some.place old c.args.rest.now c.access_at-access.result c.access_at-access.new.targets) c.as_mut_slice.ensures.value c.access_at-access.ensures in
    let items = with_items_is c.self.inside.targets c.access_at-access.new.targets (omega arith) in
    let found = position (λ (t : TargetView). t.target == c.args.target) in
    let some : found was.targets ≡ Some c.in-Some.place = sym (c.target_place.ensures ∙ ap found c.as_slice.ensures.value) ∙ c.in-Some.is in
    let base = target_accesses c.args.board.now was c.args.target line c.args.op request c.args.rest.now c.in-Some.place c.access_at-access.new.targets c.note_part.new.through c.access_at-access.result some accesses c.note_part.ensures in
    let P : BusView → Step → BusView → Type 0 = λ s step after. PlaceAnswers c.args.board.now s (Target c.args.target) line c.args.op request c.args.rest.now (Gives step (Target c.args.target)) None after in
    let one = subst (λ step. P was step (new c.access_at-access.new.targets)) (sym c.step_of.ensures) base in
    subst (λ targets. P c.args.self.now c.step_of.result (new targets)) (sym items) (subst (λ s. P s c.step_of.result (new c.access_at-access.new.targets)) c.self.view_is one)

pub returns-in-None-clause-retried : goal.returns-in-None-clause-retried
returns-in-None-clause-retried c = record { stays = λ cause is. refl }

pub returns-in-Some-clause-retried : goal.returns-in-Some-clause-retried
returns-in-Some-clause-retried c = record { stays = λ cause is. let wrong : Gives c.step_of.result (Target c.args.target) ≡ Retry cause = is in cc }
