-- What is found in a list of completions after one came or left.
use Rattle.std.proofs.Common.{◌≡◌, ◌≢◌, ℕ, suc, ◌+◌, ◌≤◌, Bool, true, false, cond, eqb, ltb, List, [], ◌∷◌, ◌++◌, length, None, Some, Option, is_some, not, refl, ap, ◌∙◌, arith}
use Rattle.std.specs.List.{position, position_or_len, remove}
use Rattle.std.proofs.lemmas.Bool.{eqb-false, ltb-false}
use Rattle.std.proofs.lemmas.Bool.Decides.{nat_tests}
use Rattle.std.proofs.lemmas.List.Folds.{find_at, find-append}
use Rattle.std.proofs.lemmas.Option.{cond_some, slice_get_past}
use Rattle.lane_items.specs.declared.completions.done_table.Done.{Done}
use Rattle.lane_items.specs.completions.Completions.{done_at, without, IsStanding, IsOneForEachSlot}

-- whether a completion is of this slot
abbrev pub is_of : ℕ → Done → Bool
is_of slot done = eqb done.slot slot

-- where no completion of the slot stands, none is found
pub done_at-none : (slot : ℕ) (dones : List Done) → (IsStanding slot dones → ⊥) → done_at slot dones ≡ None
done_at-none slot dones absent =
    let P : Option Done → Type 0 = λ found. (is_some found ≡ true → ⊥) → found ≡ None in
    (elim (done_at slot dones) as P [ None ↦ λ _. refl | Some done ↦ λ h. absurd (h refl) ]) absent

-- a completion of a slot of which none stood is found once it came
pub done_at-push_same : (slot : ℕ) (dones : List Done) (done : Done) → done.slot ≡ slot → done_at slot dones ≡ None → done_at slot (dones ++ done ∷ []) ≡ Some done
done_at-push_same slot dones done same absent = grind (arith, nat_tests, find-append (is_of slot) dones (done ∷ []))

-- what is found of the other slots stays when one comes
pub done_at-push_other : (slot : ℕ) (dones : List Done) (done : Done) → slot ≢ done.slot → done_at slot (dones ++ done ∷ []) ≡ done_at slot dones
done_at-push_other slot dones done other = grind (arith, nat_tests, find-append (is_of slot) dones (done ∷ []))

-- a first completion is of another slot than one that is not found behind it
other_than_first : (slot : ℕ) (first : Done) (later : List Done) → done_at slot (first ∷ later) ≡ None → (first.slot ≢ slot) × (done_at slot later ≡ None)
other_than_first slot first later absent = grind (arith, nat_tests)

-- no two are of one slot, also when one comes of a slot of which none stood
pub IsOneForEachSlot-push : (dones : List Done) (done : Done) → IsOneForEachSlot dones → done_at done.slot dones ≡ None → IsOneForEachSlot (dones ++ done ∷ [])
IsOneForEachSlot-push [] done one absent = (refl, tt)
IsOneForEachSlot-push (first ∷ later) done one absent =
    let behind = other_than_first done.slot first later absent in
    (done_at-push_other first.slot later done behind.0 ∙ one.0, IsOneForEachSlot-push later done one.1 behind.1)

-- what is found of the other slots stays when one leaves
pub done_at-without_other : (slot other : ℕ) (dones : List Done) → other ≢ slot → done_at other (without slot dones) ≡ done_at other dones
done_at-without_other slot other [] differ = refl
done_at-without_other slot other (first ∷ later) differ = grind (arith, nat_tests, done_at-without_other slot other later differ)

-- none of its slot is left
pub done_at-without_same : (slot : ℕ) (dones : List Done) → IsOneForEachSlot dones → done_at slot (without slot dones) ≡ None
done_at-without_same slot [] one = refl
done_at-without_same slot (first ∷ later) one = grind (arith, nat_tests, one.0, done_at-without_same slot later one.1)

-- no two are of one slot, also when one leaves
pub IsOneForEachSlot-without : (slot : ℕ) (dones : List Done) → IsOneForEachSlot dones → IsOneForEachSlot (without slot dones)
IsOneForEachSlot-without slot [] one = tt
IsOneForEachSlot-without slot (first ∷ later) one =
    let P : Bool → Type 0 = λ b. eqb first.slot slot ≡ b → IsOneForEachSlot (cond b later (first ∷ without slot later)) in
    (elim (eqb first.slot slot) as P [
      | true ↦ λ _. one.1
      | false ↦ λ differ.
          (done_at-without_other slot first.slot later (eqb-false first.slot slot differ) ∙ one.0, IsOneForEachSlot-without slot later one.1)
    ]) refl

-- the completion at the first place of the slot leaves
remove-position_or_len : (slot : ℕ) (dones : List Done) → remove dones (position_or_len (is_of slot) dones) ≡ without slot dones
remove-position_or_len slot [] = refl
remove-position_or_len slot (first ∷ later) =
    let n = position_or_len (is_of slot) later in
    let P : Bool → Type 0 = λ b. remove (first ∷ later) (cond (not b) (1 + n) 0) ≡ cond b later (first ∷ without slot later) in
    let more : 1 + n ≡ suc n = omega arith in
    elim (is_of slot first) as P [
      | true ↦ refl
      | false ↦ rw more (ap (λ dones. first ∷ dones) (remove-position_or_len slot later))
    ]

pub remove-position : (slot place : ℕ) (dones : List Done) → position (is_of slot) dones ≡ Some place → remove dones place ≡ without slot dones
remove-position slot place dones found =
    let at = cond_some _ _ _ found in
    rw (← at.1) (remove-position_or_len slot dones)

-- where no place is of the slot, none is found
pub done_at-no_position : (slot : ℕ) (dones : List Done) → position (is_of slot) dones ≡ None → done_at slot dones ≡ None
done_at-no_position slot dones found =
    let n = position_or_len (is_of slot) dones in
    let P : Bool → Type 0 = λ b. ltb n (length dones) ≡ b → cond b (Some n) None ≡ None → length dones ≤ n in
    let past = (elim (ltb n (length dones)) as P [ true ↦ λ _ some. cc | false ↦ λ above _. ltb-false n (length dones) above ]) refl found in
    find_at (is_of slot) dones ∙ slice_get_past dones n past
