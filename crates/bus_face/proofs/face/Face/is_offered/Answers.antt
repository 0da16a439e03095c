use Rattle.std.proofs.Common.{◌≡◌, ◌&&◌, not, take, Some, sym, ap, subst}
use Rattle.std.specs.List.{slice_get}
use Rattle.std.specs.Option.{option_map}
use Rattle.bus_face.specs.State.{FaceState}
use Rattle.bus_face.specs.Offers.{came_before, is_offered}
use Rattle.bus_face.proofs.PlaceLemmas.{offered_is}
use Rattle.bus_face.proofs.face.Face.is_offered.Goals as goal

pub returns-then-first : goal.returns-then-first
returns-then-first c =
    let f = c.self.inside in
    let equal = c.older_equal-equal.result in
    let F : FaceState → Type 0 = λ face. Some (not equal) ≡ option_map (λ ask. is_offered face.posts.posts (take c.args.place face.asks.asks) ask) (slice_get face.asks.asks c.args.place) in
    let G : FaceState → Type 0 = λ face. c.goes_first-first.result ≡ came_before c.get-arrival.result.2 face.posts.posts in
    subst F c.self.view_is (offered_is f.posts.posts f.asks.asks c.args.place c.get-arrival.result c.goes_first-first.result equal (not equal) c.get-arrival.ensures.value
    (subst G (sym c.self.view_is) c.goes_first-first.ensures) c.older_equal-equal.ensures.older (ap (λ b. b && not equal) (sym c.if-first.true)))
