-- What is found among held slots after one was latched or freed.
use Rattle.std.proofs.Common.{◌≡◌, ◌≢◌, ◌⊎◌, ℕ, zero, suc, ◌+◌, ◌<◌, ◌≤◌, Bool, true, false, cond, eqb, ltb, List, [], ◌∷◌, ◌++◌, length, get_or, None, Some, Option, is_some, not, refl, subst, ap, ◌∙◌, arith}
use Rattle.std.specs.List.{position, position_or_len, remove}
use Rattle.std.proofs.lemmas.Bool.{eqb-false, ltb-false}
use Rattle.std.proofs.lemmas.Bool.Decides.{nat_tests}
use Rattle.std.proofs.lemmas.List.Folds.{find_at, find-append}
use Rattle.std.proofs.lemmas.Option.{cond_some, slice_get_past}
use Rattle.pci_command.specs.declared.request.Request.{Request}
use Rattle.lane_items.specs.declared.requests.slot_table.SlotEntry.{SlotEntry}
use Rattle.lane_items.specs.requests.Slots.{slot_at, without, IsHeld, IsOwn, HasNoOwn, IsOneForEachNumber}

-- whether a slot has this number
abbrev pub is_of : ℕ → SlotEntry → Bool
is_of number slot = eqb slot.number number

-- where no slot of the number is held, none is found
pub slot_at-none : (number : ℕ) (slots : List SlotEntry) → (IsHeld number slots → ⊥) → slot_at number slots ≡ None
slot_at-none number slots absent =
    let P : Option SlotEntry → Type 0 = λ found. (is_some found ≡ true → ⊥) → found ≡ None in
    (elim (slot_at number slots) as P [ None ↦ λ _. refl | Some slot ↦ λ h. absurd (h refl) ]) absent

-- a slot of a number that was free is found once it is held
pub slot_at-push_same : (number : ℕ) (slots : List SlotEntry) (slot : SlotEntry) → slot.number ≡ number → slot_at number slots ≡ None → slot_at number (slots ++ slot ∷ []) ≡ Some slot
slot_at-push_same number slots slot same absent = grind (arith, nat_tests, find-append (is_of number) slots (slot ∷ []))

-- what is found at the other numbers stays when a slot is held
pub slot_at-push_other : (number : ℕ) (slots : List SlotEntry) (slot : SlotEntry) → number ≢ slot.number → slot_at number (slots ++ slot ∷ []) ≡ slot_at number slots
slot_at-push_other number slots slot other = grind (arith, nat_tests, find-append (is_of number) slots (slot ∷ []))

-- where no slot of the number is held, the first one has another, and none of the later ones has it
other_than_first : (number : ℕ) (first : SlotEntry) (later : List SlotEntry) → slot_at number (first ∷ later) ≡ None → (first.number ≢ number) × (slot_at number later ≡ None)
other_than_first number first later absent = grind (arith, nat_tests)

-- no two have one number, also when a slot of a free number is held
pub IsOneForEachNumber-push : (slots : List SlotEntry) (slot : SlotEntry) → IsOneForEachNumber slots → slot_at slot.number slots ≡ None → IsOneForEachNumber (slots ++ slot ∷ [])
IsOneForEachNumber-push [] slot one absent = (refl, tt)
IsOneForEachNumber-push (first ∷ later) slot one absent =
    let behind = other_than_first slot.number first later absent in
    (slot_at-push_other first.number later slot behind.0 ∙ one.0, IsOneForEachNumber-push later slot one.1 behind.1)

-- what is found at the other numbers stays when one is freed
pub slot_at-without_other : (number other : ℕ) (slots : List SlotEntry) → other ≢ number → slot_at other (without number slots) ≡ slot_at other slots
slot_at-without_other number other [] differ = refl
slot_at-without_other number other (first ∷ later) differ = grind (arith, nat_tests, slot_at-without_other number other later differ)

-- a number is free once its slot is
pub slot_at-without_same : (number : ℕ) (slots : List SlotEntry) → IsOneForEachNumber slots → slot_at number (without number slots) ≡ None
slot_at-without_same number [] one = refl
slot_at-without_same number (first ∷ later) one = grind (arith, nat_tests, one.0, slot_at-without_same number later one.1)

-- no two have one number, also when one is freed
pub IsOneForEachNumber-without : (number : ℕ) (slots : List SlotEntry) → IsOneForEachNumber slots → IsOneForEachNumber (without number slots)
IsOneForEachNumber-without number [] one = tt
IsOneForEachNumber-without number (first ∷ later) one =
    let P : Bool → Type 0 = λ b. eqb first.number number ≡ b → IsOneForEachNumber (cond b later (first ∷ without number later)) in
    (elim (eqb first.number number) as P [
      | true ↦ λ _. one.1
      | false ↦ λ differ.
          (slot_at-without_other number first.number later (eqb-false first.number number differ) ∙ one.0, IsOneForEachNumber-without number later one.1)
    ]) refl

-- the slot at the first place of the number is freed
remove-position_or_len : (number : ℕ) (slots : List SlotEntry) → remove slots (position_or_len (is_of number) slots) ≡ without number slots
remove-position_or_len number [] = refl
remove-position_or_len number (first ∷ later) =
    let n = position_or_len (is_of number) later in
    let P : Bool → Type 0 = λ b. remove (first ∷ later) (cond (not b) (1 + n) 0) ≡ cond b later (first ∷ without number later) in
    let more : 1 + n ≡ suc n = omega arith in
    elim (is_of number first) as P [
      | true ↦ refl
      | false ↦ rw more (ap (λ slots. first ∷ slots) (remove-position_or_len number later))
    ]

pub remove-position : (number place : ℕ) (slots : List SlotEntry) → position (is_of number) slots ≡ Some place → remove slots place ≡ without number slots
remove-position number place slots found =
    let at = cond_some _ _ _ found in
    rw (← at.1) (remove-position_or_len number slots)

-- where no place is of the number, none is found
pub slot_at-no_position : (number : ℕ) (slots : List SlotEntry) → position (is_of number) slots ≡ None → slot_at number slots ≡ None
slot_at-no_position number slots found =
    let n = position_or_len (is_of number) slots in
    let P : Bool → Type 0 = λ b. ltb n (length slots) ≡ b → cond b (Some n) None ≡ None → length slots ≤ n in
    let past = (elim (ltb n (length slots)) as P [ true ↦ λ _ some. cc | false ↦ λ above _. ltb-false n (length slots) above ]) refl found in
    find_at (is_of number) slots ∙ slice_get_past slots n past

-- a held slot was held before, or is the new one
pub IsHeld-push : (number : ℕ) (slots : List SlotEntry) (slot : SlotEntry) → IsHeld number (slots ++ slot ∷ []) → (number ≡ slot.number) ⊎ IsHeld number slots
IsHeld-push number [] slot held = grind (arith, nat_tests)
IsHeld-push number (first ∷ later) slot held = grind (arith, nat_tests, IsHeld-push number later slot)

-- a slot that is held after another was freed was held before
pub IsHeld-without : (number other : ℕ) (slots : List SlotEntry) → IsHeld number (without other slots) → IsHeld number slots
IsHeld-without number other [] held = held
IsHeld-without number other (first ∷ later) held = grind (arith, nat_tests, IsHeld-without number other later)

-- the slot at a place is held
pub IsHeld-at : (slots : List SlotEntry) (place : ℕ) (slot : SlotEntry) → place < length slots → slot ≡ get_or slots place slot → IsHeld slot.number slots
IsHeld-at [] place slot within same = absurd (omega arith)
IsHeld-at (first ∷ later) zero slot within same = grind (arith, nat_tests)
IsHeld-at (first ∷ later) (suc place) slot within same = grind (arith, nat_tests, IsHeld-at later place slot)

-- where no held slot has this tag and request, the one at a place has not
pub HasNoOwn-at : (tag : ℕ) (request : Request) (slots : List SlotEntry) (place : ℕ) (slot : SlotEntry) → HasNoOwn tag request slots → place < length slots → slot ≡ get_or slots place slot → IsOwn tag request slot → ⊥
HasNoOwn-at tag request [] place slot none within same own = absurd (omega arith)
HasNoOwn-at tag request (first ∷ later) zero slot none within same own =
    let P : SlotEntry → Type 0 = λ s. IsOwn tag request s in none.0 (subst P same own)
HasNoOwn-at tag request (first ∷ later) (suc place) slot none within same own =
    HasNoOwn-at tag request later place slot none.1 (omega arith) same own
