use Rattle.std.proofs.Common.{ℕ, ◌<◌, length, refl, subst, sym, arith}
use Rattle.lane_items.specs.declared.completions.done_table.Done.{Done}
use Rattle.bus_face.specs.State.{FaceState}
use Rattle.lane_items.specs.requests.Slots.{IsHeld}
use Rattle.lane_items.specs.completions.Completions.{IsStanding}
use Rattle.bus_face.proofs.HeldLemmas.{one_more_fits}
use Rattle.bus_face.proofs.face.Face.done_comes.Goals as goal

pub arrive-requires : goal.arrive-requires
arrive-requires c =
    let f = c.self.inside in
    let slot : ℕ = c.args.slot in
    let done : Done = record { slot = slot; op = c.args.op; outcome = c.args.outcome; arrival = f.arrivals } in
    let H : FaceState → Type 0 = λ face. IsHeld slot face.slots.slots in
    let N : FaceState → Type 0 = λ face. IsStanding slot face.dones.dones → ⊥ in
    let held : IsHeld slot f.slots.slots = subst H (sym c.self.view_is) c.requires.held in
    let none : IsStanding slot f.dones.dones → ⊥ = subst N (sym c.self.view_is) c.requires.none in
    let below : length f.dones.dones < length f.slots.slots =
    one_more_fits f.slots.slots f.dones.dones slot done refl c.room-dones.ensures.is_table.one_for_each_slot c.self.invariant.holds held none in
    let within = c.room-slots.ensures.is_table.within in
    let depths = c.self.invariant.depths in
    record { room = omega (arith, below, within, depths); none_of_slot = none }
