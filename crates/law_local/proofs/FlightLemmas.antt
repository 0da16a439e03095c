-- What each move of a bridge does to what is in flight.
use Rattle.std.proofs.Common.{◌≡◌, ℕ, List, [], ◌∷◌, Option, Some, None, refl, sym}
use Rattle.std.specs.List.{find}
use Rattle.std.proofs.lemmas.List.{append-nil}
use Rattle.pci_command.specs.declared.op_id.OpId.{OpId}
use Rattle.board_model.specs.declared.board.Board.{Board}
use Rattle.history_model.specs.declared.event.By.{By}
use Rattle.history_model.specs.declared.event.Mark.{Mark}
use Rattle.history_model.specs.declared.event.Step.{Step}
use Rattle.history_model.specs.declared.event.Step.TheVariants.{Land, Part, Read, Accept, Latch, Take, Stall, MasterAbort, TargetAbort}
use Rattle.history_model.specs.declared.item.Carried.{Carried}
use Rattle.history_model.specs.declared.item.Carried.TheVariants.{Post, Ask, Gone}
use Rattle.history_model.specs.declared.item.Slot.{Slot}
use Rattle.history_model.specs.Lanes.{LaneState, Both, lowest_free, Effect, Stands, Credits, Frees, Drops, effect_of, takes_effect, came_off, arrives_first}
use Rattle.history_model.specs.World.{is_own, slot_found, enters}
use Rattle.law_local.proofs.EventLemmas.{Grows}

-- what the five moves do to what is in flight
pub none_grow : (s : LaneState) → Grows s s
none_grow s = record { items = []; grown = sym (append-nil s.flight) }

-- what a step does at the lane that claimed: more is in flight there, and the same on the lane back
pub enters_flight : (board : Board) (bus : ℕ) (by : By) (o : OpId) (step : Step) (x : Both) → Grows x.here (enters board bus by o step x).here × ((enters board bus by o step x).back.flight ≡ x.back.flight)
enters_flight board bus by o Land x = (none_grow x.here, refl)
enters_flight board bus by o (Part phases) x = (none_grow x.here, refl)
enters_flight board bus by o (Read value) x = (none_grow x.here, refl)
enters_flight board bus by o Accept x = (record { items = Post o ∷ []; grown = refl }, refl)
enters_flight board bus by o Latch x = (record { items = Ask o (lowest_free x.here.held) ∷ []; grown = refl }, refl)
enters_flight board bus by o (Take outcome) x =
    let P : Option Slot → Type 0 = λ slot. Grows x.here (slot_found slot x).here × ((slot_found slot x).back.flight ≡ x.back.flight) in
    elim (find (is_own board bus by o) x.here.held) as P [
      | None ↦ (none_grow x.here, refl)
      | Some slot ↦ (record { items = []; grown = sym (append-nil x.here.flight) }, refl)
    ]
enters_flight board bus by o Stall x = (none_grow x.here, refl)
enters_flight board bus by o MasterAbort x = (none_grow x.here, refl)
enters_flight board bus by o TargetAbort x = (none_grow x.here, refl)

-- what an item does where it arrives: the same is in flight behind it, and more on the lane back
pub effect_flight : (effect : Effect) (item : Carried) (x : Both) → ((takes_effect effect item x).here.flight ≡ x.here.flight) × Grows x.back (takes_effect effect item x).back
effect_flight Stands item x = (refl, none_grow x.back)
effect_flight Credits item x = (refl, record { items = []; grown = sym (append-nil x.back.flight) })
effect_flight (Frees slot) item x = (refl, record { items = []; grown = sym (append-nil x.back.flight) })
effect_flight (Drops slot) item x = (refl, record { items = Gone slot ∷ []; grown = refl })

-- an arrival: more is in flight on the lane back
pub arrives_back : (mark : Mark) (flight : List Carried) (x : Both) → Grows x.back (arrives_first mark flight x).back
arrives_back mark [] x = none_grow x.back
arrives_back mark (item ∷ rest) x = (effect_flight (effect_of mark item) item (record x { here = came_off item rest x.here })).1
