-- There is room for the completion of every held slot.
use Rattle.std.proofs.Common.{◌≡◌, ◌≢◌, ℕ, ◌+◌, ◌<◌, ◌≤◌, Bool, true, false, cond, ◌==◌, List, [], ◌∷◌, length, Option, Some, None, is_some, refl, sym, ap, subst, ◌∙◌, arith}
use Rattle.std.proofs.lemmas.Bool.{eqb-true}
use Rattle.std.proofs.lemmas.Bool.Decides.{nat_tests}
use Rattle.lane_items.specs.declared.requests.slot_table.SlotEntry.{SlotEntry}
use Rattle.lane_items.specs.requests.Slots.{IsHeld, without}
use Rattle.lane_items.proofs.requests.SlotLemmas.{slot_at-without_other}
use Rattle.lane_items.specs.declared.completions.done_table.Done.{Done}
use Rattle.lane_items.specs.completions.Completions.{done_at, IsStanding, IsOneForEachSlot}
use Rattle.bus_face.specs.Held.{HoldsSlots}

-- one slot fewer is held once one was freed
length-without : (number : ℕ) (slots : List SlotEntry) → IsHeld number slots → length (without number slots) + 1 ≡ length slots
length-without number [] held = cc
length-without number (first ∷ later) held = grind (arith, nat_tests, length-without number later)

-- a completion of another slot that stands among the later ones
later_held : (slots : List SlotEntry) (first : Done) (later : List Done) → done_at first.slot later ≡ None → HoldsSlots slots (first ∷ later) → HoldsSlots (without first.slot slots) later
later_held slots first later none holds slot stands =
    let apart : slot ≢ first.slot = λ same. let standing : is_some (done_at first.slot later) ≡ true = subst (λ n. is_some (done_at n later) ≡ true) same stands in let gone = ap is_some none in cc in
    let P : Bool → Type 0 = λ b. (first.slot == slot) ≡ b → is_some (cond b (Some first) (done_at slot later)) ≡ true in
    let here : IsStanding slot (first ∷ later) = (elim (first.slot == slot) as P [ true ↦ λ _. refl | false ↦ λ _. stands ]) refl in
    subst (λ o. is_some o ≡ true) (sym (slot_at-without_other first.slot slot slots apart)) (holds slot here)

dones_fit : (slots : List SlotEntry) (dones : List Done) → IsOneForEachSlot dones → HoldsSlots slots dones → length dones ≤ length slots
dones_fit slots [] one holds = omega arith
dones_fit slots (first ∷ later) one holds =
    let self : (first.slot == first.slot) ≡ true = grind (arith, nat_tests) in
    let held : IsHeld first.slot slots = holds first.slot (rw self refl) in
    let fewer = length-without first.slot slots held in
    let rest = dones_fit (without first.slot slots) later one.1 (later_held slots first later one.0 holds) in
    omega (arith, fewer, rest)

pub one_more_fits : (slots : List SlotEntry) (dones : List Done) (slot : ℕ) (done : Done) → done.slot ≡ slot → IsOneForEachSlot dones → HoldsSlots slots dones → IsHeld slot slots → ¬ IsStanding slot dones
    → length dones < length slots
one_more_fits slots dones slot done is one holds held none =
    let Q : Option Done → Type 0 = λ found. done_at slot dones ≡ found → done_at slot dones ≡ None in
    let gone : done_at slot dones ≡ None = (elim (done_at slot dones) as Q [ None ↦ λ e. e | Some d ↦ λ e. absurd (none (ap is_some e)) ]) refl in
    let all : HoldsSlots slots (done ∷ dones) = λ n stands.
    let P : Bool → Type 0 = λ b. (done.slot == n) ≡ b → is_some (cond b (Some done) (done_at n dones)) ≡ true → IsHeld n slots in
    (elim (done.slot == n) as P [ true ↦ λ same _. let one : slot ≡ n = sym is ∙ eqb-true done.slot n same in subst (λ m. IsHeld m slots) one held | false ↦ λ _ there. holds n there ]) refl stands in
    let fit = dones_fit slots (done ∷ dones) (subst (λ n. done_at n dones ≡ None) (sym is) gone, one) all in
    omega (arith, fit)
