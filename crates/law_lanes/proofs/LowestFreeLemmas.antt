-- The lowest free number is free: among as many numbers and one more as slots are held, one is free.
use Rattle.std.proofs.Common.{◌≡◌, ℕ, zero, suc, ◌+◌, ◌≤◌, Bool, true, false, cond, eqb, ltb, ◌||◌, List, [], ◌∷◌, length, refl, add-one, arith}
use Rattle.std.specs.List.{list_any}
use Rattle.std.proofs.lemmas.Bool.Decides.{nat_tests}
use Rattle.list_facts.specs.Lists.{total}
use Rattle.list_facts.proofs.TotalLemmas.{total-le, total-alike, total-plus}
use Rattle.history_model.specs.declared.item.Slot.{Slot}
use Rattle.history_model.specs.Lanes.{has_number, lowest_free_from, lowest_free}
use Rattle.law_lanes.specs.Slots.{hit, slot_weight}

-- the weight of the numbers below a bound
abbrev below : ℕ → ℕ → ℕ
below bound number = cond (ltb number bound) 1 0

held_weighs : (number : ℕ) (held : List Slot) → list_any (has_number number) held ≡ true → 1 ≤ total (slot_weight (hit number)) held
held_weighs number [] some = cc
held_weighs number (slot ∷ held) some =
    let P : Bool → Type 0 = λ b. (b || list_any (has_number number) held) ≡ true → 1 ≤ cond b 1 0 + total (slot_weight (hit number)) held in
    (elim (eqb slot.number number) as P [ true ↦ λ _. omega arith | false ↦ λ e. omega (arith, held_weighs number held e) ]) some

-- numbers below a bound, each held: one more is held
more_held : (bound : ℕ) (held : List Slot) → bound ≤ total (slot_weight (below bound)) held → list_any (has_number bound) held ≡ true → suc bound ≤ total (slot_weight (below (suc bound))) held
more_held bound held lower here =
    let each : (slot : Slot) → slot_weight (below (suc bound)) slot ≡ slot_weight (below bound) slot + slot_weight (hit bound) slot = λ slot. grind (arith, nat_tests) in
    omega (arith, total-plus (slot_weight (below bound)) (slot_weight (hit bound)) (slot_weight (below (suc bound))) each held, held_weighs bound held here)

-- as many numbers at most as slots
below-le : (bound : ℕ) (held : List Slot) → total (slot_weight (below bound)) held ≤ length held
below-le bound held =
    let each : (slot : Slot) → slot_weight (below bound) slot ≤ 1 = λ slot. grind (arith, nat_tests) in
    omega (arith, total-le (slot_weight (below bound)) (λ (slot : Slot). 1) each held, total-alike (λ (slot : Slot). 1) 1 (λ slot. refl) held)

lowest_from : (more number : ℕ) (held : List Slot) → number + more ≡ length held → number ≤ total (slot_weight (below number)) held
    → (list_any (has_number (lowest_free_from more number held)) held ≡ false) × (lowest_free_from more number held ≤ length held)
lowest_from zero number held count lower =
    let P : Bool → Type 0 = λ b. list_any (has_number number) held ≡ b → (list_any (has_number number) held ≡ false) × (number ≤ length held) in
    (elim (list_any (has_number number) held) as P [
      | true ↦ λ here. absurd (omega (arith, more_held number held lower here, below-le (suc number) held))
      | false ↦ λ free. (free, omega arith)
    ]) refl
lowest_from (suc more) number held count lower =
    let Free : ℕ → Type 0 = λ n. (list_any (has_number n) held ≡ false) × (n ≤ length held) in
    let next : ℕ = number + 1 in
    let P : Bool → Type 0 = λ b. list_any (has_number number) held ≡ b → Free (cond b (lowest_free_from more next held) number) in
    (elim (list_any (has_number number) held) as P [
      | true ↦ λ here.
          let higher : number + 1 ≤ total (slot_weight (below (number + 1))) held = rw add-one (more_held number held lower here) in
          lowest_from more next held (omega arith) higher
      | false ↦ λ free. (free, omega arith)
    ]) refl

pub lowest_free-free : (held : List Slot) → list_any (has_number (lowest_free held)) held ≡ false
lowest_free-free held = (lowest_from (length held) 0 held (omega arith) (omega arith)).0

-- it is at most the number of slots held
pub lowest_free-le : (held : List Slot) → lowest_free held ≤ length held
lowest_free-le held = (lowest_from (length held) 0 held (omega arith) (omega arith)).1
