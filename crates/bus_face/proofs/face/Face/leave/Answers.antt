use Rattle.std.proofs.Common.{◌<◌, length, sym, subst}
use Rattle.bus_face.specs.State.{FaceState}
use Rattle.bus_face.proofs.EndLemmas.{post_there}
use Rattle.bus_face.proofs.face.Face.leave.Goals as goal

pub pop-requires : goal.pop-requires
pop-requires c =
    let F : FaceState → Type 0 = λ face. 0 < length face.posts.posts in
    subst F (sym c.self.view_is) (post_there c.args.self.now c.args.offer.now c.requires c.if-offer.false)
