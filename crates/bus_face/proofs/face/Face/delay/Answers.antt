use Rattle.std.proofs.Common.{subst, refl}
use Rattle.lane_items.specs.requests.Slots.{IsOwnNumber, HasNoOwn}
use Rattle.bus_face.specs.State.{FaceState}
use Rattle.bus_face.proofs.DelayLemmas.{delay_some, delay_none}
use Rattle.bus_face.proofs.face.Face.delay.Goals as goal

pub returns-in-Some : goal.returns-in-Some
returns-in-Some c =
    let F : FaceState → Type 0 = λ face. IsOwnNumber c.args.tag c.args.request.now face.slots.slots c.in-Some.slot in
    delay_some c.args.self.now c.args.tag c.args.op c.args.request.now c.is_read.result c.in-Some.slot c.take.result c.take.new.self c.requires c.is_read.ensures
    (subst F c.self.view_is c.in-Some.ensures.own) c.take.ensures

pub returns-in-None : goal.returns-in-None
returns-in-None c =
    let F : FaceState → Type 0 = λ face. HasNoOwn c.args.tag c.args.request.now face.slots.slots in
    delay_none c.args.self.now c.args.tag c.args.op c.args.request.now c.latch.result c.latch.new.self c.requires
    (subst F c.self.view_is (c.in-None.ensures.none.0 refl)) c.latch.ensures
