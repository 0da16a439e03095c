-- Held slots, by their numbers, when one more is held and when one is freed.
use Rattle.std.proofs.Common.{◌≡◌, ◌≢◌, ℕ, ◌+◌, ◌≤◌, Bool, true, false, cond, eqb, ◌||◌, List, [], ◌∷◌, ◌++◌, Some, None, refl, ap, ◌∙◌, arith}
use Rattle.std.specs.List.{find, list_any}
use Rattle.std.proofs.lemmas.Bool.{eqb-true}
use Rattle.std.proofs.lemmas.Bool.Decides.{nat_tests}
use Rattle.list_facts.specs.Lists.{less, total}
use Rattle.list_facts.proofs.TotalLemmas.{found}
use Rattle.list_facts.proofs.FindLemmas.{find-append_found, find-append_none, find-less_other}
use Rattle.pci_command.specs.declared.op_id.OpId.{OpId}
use Rattle.history_model.specs.declared.item.Carried.{Carried}
use Rattle.history_model.specs.declared.item.Carried.TheVariants.{Post, Ask, Done, Room, Gone}
use Rattle.history_model.specs.declared.item.Slot.{Slot}
use Rattle.history_model.specs.Lanes.{has_number}
use Rattle.law_lanes.specs.Slots.{hit, slot_weight, ask_weight, done_weight, IsHeldFor, AskNamed, DoneNamed}

pub hit-same : (number : ℕ) → hit number number ≡ 1
hit-same number = grind (arith, nat_tests)

pub hit-none : (number other : ℕ) → hit number other ≡ 0 → other ≢ number
hit-none number other none = grind (arith, nat_tests)

pub hit-le : (number other : ℕ) → hit number other ≤ 1
hit-le number other = grind (arith, nat_tests)

-- where a number is held, the slot that is found by it has it
pub found_by_number : (number : ℕ) (held : List Slot) → 1 ≤ total (slot_weight (hit number)) held → (weight : ℕ → ℕ) → found (slot_weight weight) (find (has_number number) held) ≡ weight number
found_by_number number [] some weight = absurd (omega arith)
found_by_number number (slot ∷ held) some weight =
    let F : Slot → ℕ = slot_weight weight in
    let P : Bool → Type 0 = λ b. eqb slot.number number ≡ b → 1 ≤ cond b 1 0 + total (slot_weight (hit number)) held → found F (cond b (Some slot) (find (has_number number) held)) ≡ weight number in
    (elim (eqb slot.number number) as P [
      | true ↦ λ same _. ap weight (eqb-true slot.number number same)
      | false ↦ λ _ more. found_by_number number held (omega arith) weight
    ]) refl some

-- a number that no slot has
pub none_by_number : (number : ℕ) (held : List Slot) → list_any (has_number number) held ≡ false → (find (has_number number) held ≡ None) × (total (slot_weight (hit number)) held ≡ 0)
none_by_number number [] free = (refl, refl)
none_by_number number (slot ∷ held) free =
    let F : Slot → ℕ = slot_weight (hit number) in
    let P : Bool → Type 0 = λ b. (b || list_any (has_number number) held) ≡ false → (cond b (Some slot) (find (has_number number) held) ≡ None) × (cond b 1 0 + total F held ≡ 0) in
    (elim (eqb slot.number number) as P [
      | true ↦ λ e. cc
      | false ↦ λ e. let later = none_by_number number held e in (later.0, omega arith)
    ]) free

pub IsHeldFor-push : (held : List Slot) (slot : Slot) (number : ℕ) (o : OpId) → IsHeldFor held number o → IsHeldFor (held ++ slot ∷ []) number o
IsHeldFor-push held slot number o is =
    record { slot = is.slot; is_held = find-append_found (has_number number) held (slot ∷ []) is.slot is.is_held; is_for = is.is_for }

pub IsHeldFor-new : (held : List Slot) (slot : Slot) → find (has_number slot.number) held ≡ None → IsHeldFor (held ++ slot ∷ []) slot.number slot.op
IsHeldFor-new held slot free =
    let alone : find (has_number slot.number) (slot ∷ []) ≡ Some slot = grind (arith, nat_tests) in
    record { slot = slot; is_held = find-append_none (has_number slot.number) held (slot ∷ []) free ∙ alone; is_for = refl }

pub IsHeldFor-less : (held : List Slot) (freed number : ℕ) (o : OpId) → number ≢ freed → IsHeldFor held number o → IsHeldFor (less (has_number freed) held) number o
IsHeldFor-less held freed number o other is =
    let apart : (slot : Slot) → has_number freed slot ≡ true → has_number number slot ≡ false = λ slot same. grind (arith, nat_tests) in
    record { slot = is.slot; is_held = find-less_other (has_number freed) (has_number number) apart held ∙ is.is_held; is_for = is.is_for }

-- an item that names its slot does so when one more is held, and when another is freed
pub AskNamed-push : (held : List Slot) (slot : Slot) (item : Carried) → AskNamed held item → AskNamed (held ++ slot ∷ []) item
AskNamed-push held slot (Post op) named = tt
AskNamed-push held slot (Ask op number) named = IsHeldFor-push held slot number op named
AskNamed-push held slot (Done op number outcome) named = tt
AskNamed-push held slot Room named = tt
AskNamed-push held slot (Gone number) named = tt

pub DoneNamed-push : (held : List Slot) (slot : Slot) (item : Carried) → DoneNamed held item → DoneNamed (held ++ slot ∷ []) item
DoneNamed-push held slot (Post op) named = tt
DoneNamed-push held slot (Ask op number) named = tt
DoneNamed-push held slot (Done op number outcome) named = IsHeldFor-push held slot number op named
DoneNamed-push held slot Room named = tt
DoneNamed-push held slot (Gone number) named = tt

pub AskNamed-less : (held : List Slot) (freed : ℕ) (item : Carried) → ask_weight (hit freed) item ≡ 0 → AskNamed held item → AskNamed (less (has_number freed) held) item
AskNamed-less held freed (Post op) other named = tt
AskNamed-less held freed (Ask op number) other named = IsHeldFor-less held freed number op (hit-none freed number other) named
AskNamed-less held freed (Done op number outcome) other named = tt
AskNamed-less held freed Room other named = tt
AskNamed-less held freed (Gone number) other named = tt

pub DoneNamed-less : (held : List Slot) (freed : ℕ) (item : Carried) → done_weight (hit freed) item ≡ 0 → DoneNamed held item → DoneNamed (less (has_number freed) held) item
DoneNamed-less held freed (Post op) other named = tt
DoneNamed-less held freed (Ask op number) other named = tt
DoneNamed-less held freed (Done op number outcome) other named = IsHeldFor-less held freed number op (hit-none freed number other) named
DoneNamed-less held freed Room other named = tt
DoneNamed-less held freed (Gone number) other named = tt
