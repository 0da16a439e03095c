use Rattle.std.proofs.Common.{◌≡◌, ℕ, false, take, length, Some, sym, subst, ◌∙◌, add-one, arith}
use Rattle.std.specs.List.{list_any, slice_get}
use Rattle.std.specs.Option.{option_map}
use Rattle.bus_face.specs.State.{FaceState}
use Rattle.bus_face.specs.Offers.{is_ask_for}
use Rattle.bus_face.proofs.PlaceLemmas.{found_here, none_here, less_none, take_all}
use Rattle.bus_face.proofs.face.Face.place_of.Goals as goal

pub returns-then-same_op : goal.returns-then-same_op
returns-then-same_op c =
    let face = c.args.self.now in
    let place : ℕ = c.loop-place.place in
    let F : FaceState → Type 0 = λ f. Some c.get.result ≡ option_map (λ ask. (ask.op, ask.slot, ask.arrival)) (slice_get f.asks.asks place) in
    let L : FaceState → Type 0 = λ f. c.len-place-end.result ≡ length f.asks.asks in
    let len = subst L c.self.view_is c.len-place-end.ensures.value in
    (omega (arith, len), found_here c.args.op face.asks.asks place c.get.result c.loop-place.invariant (subst F c.self.view_is c.get.ensures.value) (sym c.same_op.ensures ∙ c.if-same_op.true))

pub loop-place-preserved : goal.loop-place-preserved
loop-place-preserved c =
    let face = c.args.self.now in
    let place : ℕ = c.loop-place.place in
    let F : FaceState → Type 0 = λ f. Some c.get.result ≡ option_map (λ ask. (ask.op, ask.slot, ask.arrival)) (slice_get f.asks.asks place) in
    let none = none_here c.args.op face.asks.asks place c.get.result c.loop-place.invariant (subst F c.self.view_is c.get.ensures.value) (sym c.same_op.ensures ∙ c.if-same_op.false) in
    subst (λ n. list_any (is_ask_for c.args.op) (take n face.asks.asks) ≡ false) (sym (add-one place)) none

pub returns : goal.returns
returns c =
    let face = c.args.self.now in
    let L : FaceState → Type 0 = λ f. c.len-place-end.result ≡ length f.asks.asks in
    let len = subst L c.self.view_is c.len-place-end.ensures.value in
    let all = take_all c.loop-place.place face.asks.asks (omega (arith, len)) in
    less_none (is_ask_for c.args.op) face.asks.asks (subst (λ asks. list_any (is_ask_for c.args.op) asks ≡ false) all c.loop-place.invariant)
