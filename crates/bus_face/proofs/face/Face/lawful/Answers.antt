use Rattle.std.proofs.Common.{subst}
use Rattle.lane_items.specs.requests.Slots.{IsOneForEachNumber}
use Rattle.bus_face.specs.State.{FaceState}
use Rattle.bus_face.specs.Arrivals.{carried}
use Rattle.bus_face.proofs.LawfulLemmas.{lawful_on_lanes}
use Rattle.bus_face.proofs.face.Face.lawful.Goals as goal

pub returns-clause-lanes : goal.returns-clause-lanes
returns-clause-lanes c =
    let F : FaceState → Type 0 = λ face. IsOneForEachNumber face.slots.slots in
    lawful_on_lanes c.args.self.now (carried c.args.item.now) c.takes.result (subst F c.self.view_is c.room-room.ensures.is_table.one_for_each_number) c.takes.ensures
