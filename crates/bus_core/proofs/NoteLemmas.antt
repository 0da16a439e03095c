-- What went through of a write, after the answer of a target.
use Rattle.std.proofs.Common.{◌≡◌, ℕ, Bool, true, false, List, refl}
use Rattle.pci_command.specs.declared.op_id.OpId.{OpId}
use Rattle.history_model.specs.declared.event.Event.TheVariants.{Act}
use Rattle.pci_command.specs.declared.op_id.Outcome.{Outcome}
use Rattle.history_model.specs.Words.{phases_parted}
use Rattle.bus_face.specs.declared.offer.Offer.{Offer}
use Rattle.bus_face.specs.Offers.{answered_with}
use Rattle.bus_core.specs.Calls.{stamp_of}
use Rattle.bus_agents.specs.Through.{AddsPart}
use Rattle.bus_agents.proofs.ThroughLemmas.{through_stays}
use Rattle.bus_targets.specs.declared.access.Access.{Access}
use Rattle.bus_targets.specs.declared.access.Access.TheVariants.{Stall, Abort, Value, Part, Landed}
use Rattle.bus_targets.specs.State.{step_of}
use Rattle.bus_core.specs.Places.{NotesPart}
use Rattle.bus_core.proofs.CalmLemmas.{none_parted}

-- a part adds to what went through, and any other answer nothing
pub part_noted : (old : List (List ℕ)) (o : OpId) (phases : ℕ) (new : List (List ℕ)) → AddsPart old o phases new → NotesPart old o (Part phases) new
part_noted old o phases new adds = record { stands = λ board p on by place op stands is_op once. adds.stands board p on by place op stands is_op (once phases refl) }

still_noted : (gone : List (List ℕ)) (o : OpId) (access : Access) → phases_parted (step_of access) ≡ 0 → NotesPart gone o access gone
still_noted gone o access none =
    record { stands = λ board p on by place op stands is_op once. through_stays board p gone (Act on by o (step_of access) place) (λ q. none_parted on by o q (step_of access) place none) stands }

pub none_noted : (gone : List (List ℕ)) (o : OpId) (access : Access) → ((phases : ℕ) → access ≡ Part phases → ⊥) → NotesPart gone o access gone
none_noted gone o Stall other = still_noted gone o Stall refl
none_noted gone o Abort other = still_noted gone o Abort refl
none_noted gone o (Value value) other = still_noted gone o (Value value) refl
none_noted gone o (Part phases) other = absurd (other phases refl)
none_noted gone o Landed other = still_noted gone o Landed refl

-- what goes back for an item has the stamp
pub answer_stamp : (offer : Offer) (outcome : Outcome) (stamp : ℕ) → stamp_of (answered_with offer outcome stamp) ≡ stamp
answer_stamp offer outcome stamp =
    let P : Bool → Type 0 = λ b. stamp_of (answered_with (record offer { ask = b }) outcome stamp) ≡ stamp in
    elim offer.ask as P [ true ↦ refl | false ↦ refl ]
