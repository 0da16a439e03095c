use Rattle.std.proofs.Common.{◌≡◌, ◌+◌, ℕ, suc, [], ◌∷◌, ◌++◌, length, take, true, Some, sym, ap, subst, ◌∙◌, add-one, arith}
use Rattle.std.specs.List.{slice_get}
use Rattle.std.specs.Option.{option_map}
use Rattle.bus_face.specs.State.{FaceState}
use Rattle.bus_face.specs.Offers.{ask_offers}
use Rattle.bus_face.proofs.PlaceLemmas.{offers_yes, offers_no}
use Rattle.bus_face.proofs.face.Face.ask_offers.Goals as goal
use Rattle.bus_face.proofs.face.Face.ask_offers.Goals.{then-is_offered, else-is_offered}

pub loop-place-preserved : goal.loop-place-preserved
loop-place-preserved c =
    let face = c.args.self.now in
    let place : ℕ = c.loop-place.place in
    let next : suc place ≡ place + 1 = sym (add-one place) in
    elim c.if-is_offered.branch [
      | then-is_offered w ↦
          let F : FaceState → Type 0 = λ f. Some w.get-slot.result ≡ option_map (λ ask. (ask.op, ask.slot, ask.arrival)) (slice_get f.asks.asks place) in
          let one = offers_yes face.posts.posts face.asks.asks place w.get-slot.result c.loop-place.offers.items c.loop-place.invariant.0
          (ap Some (sym w.if-is_offered.true) ∙ c.is_offered.ensures) (subst F c.self.view_is w.get-slot.ensures.value) in
          let moved = subst (λ n. c.loop-place.offers.items ++ record { op = w.get-slot.result.0; ask = true; slot = w.get-slot.result.1 } ∷ [] ≡ ask_offers face.posts.posts [] (take n face.asks.asks)) next one in
          let longer : length c.if-is_offered.offers.items ≡ length w.push.new.self.items = cc in
          (cc, omega (arith, longer, w.push.ensures.len, c.loop-place.invariant.1))
      | else-is_offered w ↦
          let one = offers_no face.posts.posts face.asks.asks place c.loop-place.offers.items c.loop-place.invariant.0 (ap Some (sym w.if-is_offered.false) ∙ c.is_offered.ensures) in
          let moved = subst (λ n. c.loop-place.offers.items ≡ ask_offers face.posts.posts [] (take n face.asks.asks)) next one in
          let same : length c.if-is_offered.offers.items ≡ length c.loop-place.offers.items = cc in
          (cc, omega (arith, same, c.loop-place.invariant.1))
    ]
