-- Each held slot has one item, in one place.
use Rattle.std.proofs.Common.{◌≡◌, ℕ, ◌+◌, ◌≤◌, Bool, true, false, cond, eqb, List, [], ◌∷◌, Option, Some, None, refl, ap, ◌∙◌, arith, ◌⊎◌, inl, inr, is_some}
use Rattle.std.specs.List.{find, AllByRecursion}
use Rattle.std.proofs.lemmas.Bool.{eqb-true}
use Rattle.std.proofs.lemmas.Bool.Decides.{nat_tests}
use Rattle.list_facts.specs.Lists.{total}
use Rattle.list_facts.proofs.TotalLemmas.{found, found-le}
use Rattle.list_facts.proofs.EachLemmas.{Each-weaker, Each-find, Each-within}
use Rattle.pci_command.specs.declared.op_id.OpId.{OpId}
use Rattle.pci_command.specs.declared.op_id.Outcome.{Outcome}
use Rattle.history_model.specs.declared.item.Carried.{Carried}
use Rattle.history_model.specs.declared.item.Carried.TheVariants.{Post, Ask, Done, Room, Gone}
use Rattle.history_model.specs.declared.item.Slot.{Slot}
use Rattle.history_model.specs.Local.{is_ask_of, is_gone_of}
use Rattle.history_model.specs.Lanes.{Both, has_number, is_done_for}
use Rattle.law_lanes.specs.Slots.{hit, slot_weight, ask_weight, done_weight, gone_weight, places, IsHeldFor, AskNamed, DoneNamed, Slots, ItemOf, ask_flies, ask_stands, done_flies, done_stands, gone_flies, HasOneItem, GoneHeld}
use Rattle.law_lanes.proofs.HeldLemmas.{hit-same, found_by_number}

-- a number that no two slots share finds each slot
pub Each-found_itself : (held : List Slot) → ((number : ℕ) → total (slot_weight (hit number)) held ≤ 1) → AllByRecursion (λ slot. find (has_number slot.number) held ≡ Some slot) held
Each-found_itself [] once = tt
Each-found_itself (slot ∷ held) once =
    let once_later : (number : ℕ) → total (slot_weight (hit number)) held ≤ 1 = λ number. omega (arith, once number) in
    let self : eqb slot.number slot.number ≡ true = grind (arith, nat_tests) in
    let behind : (other : Slot) → find (has_number other.number) held ≡ Some other → find (has_number other.number) (slot ∷ held) ≡ Some other =
    λ other is.
    let P : Bool → Type 0 = λ b. cond b 1 0 + total (slot_weight (hit other.number)) held ≤ 1 → cond b (Some slot) (find (has_number other.number) held) ≡ Some other in
    let here : 1 ≤ found (slot_weight (hit other.number)) (find (has_number other.number) held) = rw is (omega (arith, hit-same other.number)) in
    (elim (eqb slot.number other.number) as P [
      | true ↦ λ twice. absurd (omega (arith, here, found-le (slot_weight (hit other.number)) (has_number other.number) held))
      | false ↦ λ _. is
    ]) (once other.number) in
    let P : Slot → Type 0 = λ other. find (has_number other.number) held ≡ Some other in
    let Q : Slot → Type 0 = λ other. find (has_number other.number) (slot ∷ held) ≡ Some other in
    (rw self refl, Each-weaker P Q behind held (Each-found_itself held once_later))

-- where items weigh by a number, the first with that number is found
pub ask_found : (number : ℕ) (items : List Carried) → 1 ≤ total (ask_weight (hit number)) items → (op : OpId) × (find (is_ask_of number) items ≡ Some (Ask op number))
ask_found number [] some = absurd (omega arith)
ask_found number (Post op ∷ items) some = ask_found number items (omega arith)
ask_found number (Ask op slot ∷ items) some =
    let P : Bool → Type 0 = λ b. eqb slot number ≡ b → 1 ≤ cond b 1 0 + total (ask_weight (hit number)) items → (p : OpId) × (cond b (Some (Ask op slot)) (find (is_ask_of number) items) ≡ Some (Ask p number)) in
    (elim (eqb slot number) as P [
      | true ↦ λ same _. (op, ap (λ n. Some (Ask op n)) (eqb-true slot number same))
      | false ↦ λ _ later. ask_found number items (omega arith)
    ]) refl some
ask_found number (Done op slot outcome ∷ items) some = ask_found number items (omega arith)
ask_found number (Room ∷ items) some = ask_found number items (omega arith)
ask_found number (Gone slot ∷ items) some = ask_found number items (omega arith)

done_found : (number : ℕ) (items : List Carried) → 1 ≤ total (done_weight (hit number)) items → (op : OpId) × ((outcome : Outcome) × (find (is_done_for number) items ≡ Some (Done op number outcome)))
done_found number [] some = absurd (omega arith)
done_found number (Post op ∷ items) some = done_found number items (omega arith)
done_found number (Ask op slot ∷ items) some = done_found number items (omega arith)
done_found number (Done op slot outcome ∷ items) some =
    let P : Bool → Type 0 = λ b. eqb slot number ≡ b → 1 ≤ cond b 1 0 + total (done_weight (hit number)) items → (p : OpId) × ((y : Outcome) × (cond b (Some (Done op slot outcome)) (find (is_done_for number) items) ≡ Some (Done p number y))) in
    (elim (eqb slot number) as P [
      | true ↦ λ same _. (op, (outcome, ap (λ n. Some (Done op n outcome)) (eqb-true slot number same)))
      | false ↦ λ _ later. done_found number items (omega arith)
    ]) refl some
done_found number (Room ∷ items) some = done_found number items (omega arith)
done_found number (Gone slot ∷ items) some = done_found number items (omega arith)

gone_found : (number : ℕ) (items : List Carried) → 1 ≤ total (gone_weight (hit number)) items → find (is_gone_of number) items ≡ Some (Gone number)
gone_found number [] some = absurd (omega arith)
gone_found number (Post op ∷ items) some = gone_found number items (omega arith)
gone_found number (Ask op slot ∷ items) some = gone_found number items (omega arith)
gone_found number (Done op slot outcome ∷ items) some = gone_found number items (omega arith)
gone_found number (Room ∷ items) some = gone_found number items (omega arith)
gone_found number (Gone slot ∷ items) some =
    let P : Bool → Type 0 = λ b. eqb slot number ≡ b → 1 ≤ cond b 1 0 + total (gone_weight (hit number)) items → cond b (Some (Gone slot)) (find (is_gone_of number) items) ≡ Some (Gone number) in
    (elim (eqb slot number) as P [
      | true ↦ λ same _. ap (λ n. Some (Gone n)) (eqb-true slot number same)
      | false ↦ λ _ later. gone_found number items (omega arith)
    ]) refl some

-- the operation that a slot is held for is that of the slot
same_for : (held : List Slot) (slot : Slot) (op : OpId) → find (has_number slot.number) held ≡ Some slot → IsHeldFor held slot.number op → op ≡ slot.op
same_for held slot op is for_op = let same : for_op.slot ≡ slot = cc in let ops = ap (λ s. s.op) same in cc

ask_of : (held : List Slot) (slot : Slot) (items : List Carried) → find (has_number slot.number) held ≡ Some slot → AllByRecursion (AskNamed held) items
    → 1 ≤ total (ask_weight (hit slot.number)) items → find (is_ask_of slot.number) items ≡ Some (Ask slot.op slot.number)
ask_of held slot items is named some =
    let at = ask_found slot.number items some in
    let same = same_for held slot at.0 is (Each-find (AskNamed held) (is_ask_of slot.number) items (Ask at.0 slot.number) named at.1) in
    at.1 ∙ ap (λ op. Some (Ask op slot.number)) same

done_of : (held : List Slot) (slot : Slot) (items : List Carried) → find (has_number slot.number) held ≡ Some slot → AllByRecursion (DoneNamed held) items
    → 1 ≤ total (done_weight (hit slot.number)) items → (outcome : Outcome) × (find (is_done_for slot.number) items ≡ Some (Done slot.op slot.number outcome))
done_of held slot items is named some =
    let at = done_found slot.number items some in
    let outcome : Outcome = at.1.0 in
    let same = same_for held slot at.0 is (Each-find (DoneNamed held) (is_done_for slot.number) items (Done at.0 slot.number outcome) named at.1.1) in
    (outcome, at.1.1 ∙ ap (λ op. Some (Done op slot.number outcome)) same)

one_of_five : (a b c d e : ℕ) → a + b + c + d + e ≡ 1 → (1 ≤ a) ⊎ ((1 ≤ b) ⊎ ((1 ≤ c) ⊎ ((1 ≤ d) ⊎ (1 ≤ e))))
one_of_five a b c d e one = grind arith

item_of : (x : Both) (slot : Slot) → Slots x → find (has_number slot.number) x.here.held ≡ Some slot → HasOneItem x slot
item_of x slot slots is =
    let number : ℕ = slot.number in
    let held : List Slot = x.here.held in
    let here : 1 ≤ found (slot_weight (hit number)) (find (has_number number) held) = rw is (omega (arith, hit-same number)) in
    let one : places (hit number) x ≡ 1 = omega (arith, slots.one_place (hit number), slots.once number, here, found-le (slot_weight (hit number)) (has_number number) held) in
    let somewhere : ItemOf slot x =
    elim (one_of_five (total (ask_weight (hit number)) x.here.flight) (total (ask_weight (hit number)) x.here.standing) (total (done_weight (hit number)) x.back.flight)
    (total (done_weight (hit number)) x.back.standing) (total (gone_weight (hit number)) x.back.flight) one) [
      | inl some ↦ ask_flies (ask_of held slot x.here.flight is slots.asks_flying some)
      | inr (inl some) ↦ ask_stands (ask_of held slot x.here.standing is slots.asks_standing some)
      | inr (inr (inl some)) ↦ let done = done_of held slot x.back.flight is slots.dones_flying some in done_flies done.0 done.1
      | inr (inr (inr (inl some))) ↦ let done = done_of held slot x.back.standing is slots.dones_standing some in done_stands done.0 done.1
      | inr (inr (inr (inr some))) ↦ gone_flies (gone_found number x.back.flight some)
    ] in
    record { somewhere = somewhere; one = one }

pub HasOneItem-each : (x : Both) → Slots x → AllByRecursion (HasOneItem x) x.here.held
HasOneItem-each x slots =
    let P : Slot → Type 0 = λ slot. find (has_number slot.number) x.here.held ≡ Some slot in
    Each-weaker P (HasOneItem x) (λ slot is. item_of x slot slots is) x.here.held (Each-found_itself x.here.held slots.once)

-- a number that weighs is held
pub some_held : (number : ℕ) (held : List Slot) → 1 ≤ total (slot_weight (hit number)) held → is_some (find (has_number number) held) ≡ true
some_held number held some =
    let by = found_by_number number held some (hit number) in
    let P : Option Slot → Type 0 = λ own. found (slot_weight (hit number)) own ≡ hit number number → is_some own ≡ true in
    (elim (find (has_number number) held) as P [ None ↦ λ e. absurd (omega (arith, hit-same number)) | Some slot ↦ λ _. refl ]) by

gone_held : (held : List Slot) (item : Carried) → ((number : ℕ) → gone_weight (hit number) item ≤ total (slot_weight (hit number)) held) → GoneHeld held item
gone_held held (Post op) within = tt
gone_held held (Ask op slot) within = tt
gone_held held (Done op slot outcome) within = tt
gone_held held Room within = tt
gone_held held (Gone slot) within = some_held slot held (omega (arith, within slot, hit-same slot))

pub GoneHeld-each : (x : Both) → Slots x → AllByRecursion (GoneHeld x.here.held) x.back.flight
GoneHeld-each x slots =
    let P : Carried → Type 0 = λ item. (weight : Carried → ℕ) → weight item ≤ total weight x.back.flight in
    let held : (item : Carried) → P item → GoneHeld x.here.held item =
    λ item within. gone_held x.here.held item (λ number. omega (arith, within (gone_weight (hit number)), slots.one_place (hit number))) in
    Each-weaker P (GoneHeld x.here.held) held x.back.flight (Each-within x.back.flight)
