-- The lowest free number: there is one below the depth as long as there is room.
use Rattle.std.proofs.Common.{◌≡◌, ◌≢◌, ℕ, zero, suc, ◌+◌, ◌<◌, ◌≤◌, List, [], ◌∷◌, length, inl, inr, arith}
use Rattle.std.proofs.lemmas.Bool.{cases_order}
use Rattle.std.proofs.lemmas.Bool.Decides.{nat_tests}
use Rattle.lane_items.specs.declared.requests.slot_table.SlotEntry.{SlotEntry}
use Rattle.lane_items.specs.requests.Slots.{without, IsHeld, IsLowestFree}
use Rattle.lane_items.proofs.requests.SlotLemmas.{slot_at-without_other}

-- one slot fewer is held once one was freed
length-without : (number : ℕ) (slots : List SlotEntry) → IsHeld number slots → length (without number slots) + 1 ≡ length slots
length-without number [] held = cc
length-without number (first ∷ later) held = grind (arith, nat_tests, length-without number later)

-- where all numbers below some number are held, as many slots are
pub all_below_held : (number : ℕ) (slots : List SlotEntry) → ((lower : ℕ) → lower < number → IsHeld lower slots) → number ≤ length slots
all_below_held zero slots held = omega arith
all_below_held (suc last) slots held =
    let others : (lower : ℕ) → lower < last → IsHeld lower (without last slots) =
    λ lower below. let differ : lower ≢ last = omega arith in
    rw (slot_at-without_other last lower slots differ) (held lower (omega arith)) in
    omega (arith, all_below_held last (without last slots) others, length-without last slots (held last (omega arith)))

-- there is one lowest free number
pub IsLowestFree-unique : (a b : ℕ) (slots : List SlotEntry) → IsLowestFree a slots → IsLowestFree b slots → a ≡ b
IsLowestFree-unique a b slots p q =
    elim (cases_order a b) [
      | inl same ↦ same
      | inr (inl below) ↦ absurd (p.free (q.lowest a below))
      | inr (inr above) ↦ absurd (q.free (p.lowest b above))
    ]
