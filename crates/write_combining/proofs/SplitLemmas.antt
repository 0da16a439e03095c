-- Two writes by the last data phase of the earlier and the first of the later.
use Rattle.std.proofs.Common.{◌≡◌, ℕ, ◌-◌, true, false, cond, List, [], ◌∷◌, ◌++◌, length, take, Some, None, refl, sym, ap, subst, ◌∙◌, arith, slice_get}
use Rattle.std.proofs.lemmas.List.{length-append}
use Rattle.pci_command.specs.declared.phases.Phase.{Phase}
use Rattle.board_model.specs.declared.board.Board.{Board}
use Rattle.write_combining.specs.Writes.{MemoryWrite}
use Rattle.write_combining.specs.Joins.{may_combine, combined_write, may_merge, merged_phase, merge_by, join_writes}

long : {X : Type 0} (xs : List X) (x : X) → length (xs ++ x ∷ []) - 1 ≡ length xs
long xs x = omega (arith, length-append xs (x ∷ []))

last_at : {X : Type 0} (xs : List X) (x : X) → slice_get (xs ++ x ∷ []) (length xs) ≡ Some x
last_at [] x = refl
last_at (y ∷ ys) x = last_at ys x

front_at : {X : Type 0} (xs : List X) (x : X) → take (length xs) (xs ++ x ∷ []) ≡ xs
front_at [] x = refl
front_at (y ∷ ys) x = ap (λ zs. y ∷ zs) (front_at ys x)

abbrev write : ℕ → List Phase → MemoryWrite
write address phases = record { address = address; phases = phases }

module _ (board : Board) (a b : ℕ) (front rest : List Phase) (last first : Phase) where
  abbrev earlier : MemoryWrite
  earlier = write a (front ++ last ∷ [])

  abbrev later : MemoryWrite
  later = write b (first ∷ rest)

  last_is : slice_get (front ++ last ∷ []) (length (front ++ last ∷ []) - 1) ≡ Some last
  last_is = ap (slice_get (front ++ last ∷ [])) (long front last) ∙ last_at front last

  merge_is : merge_by board earlier later (slice_get (front ++ last ∷ []) (length (front ++ last ∷ []) - 1)) (Some first) ≡ cond (may_merge board earlier later last first) (Some (write a (front ++ merged_phase last first ∷ rest))) None
  merge_is =
      let front_is : take (length (front ++ last ∷ []) - 1) (front ++ last ∷ []) ≡ front = ap (λ n. take n (front ++ last ∷ [])) (long front last) ∙ front_at front last in
      ap (λ x. merge_by board earlier later x (Some first)) last_is
      ∙ ap (λ ps. cond (may_merge board earlier later last first) (Some (write a (ps ++ merged_phase last first ∷ rest))) None) front_is

  join_is : may_combine earlier later ≡ false → join_writes board earlier later ≡ cond (may_merge board earlier later last first) (Some (write a (front ++ merged_phase last first ∷ rest))) None
  join_is not_combined =
      ap (λ x. cond x (Some (combined_write earlier later)) (merge_by board earlier later (slice_get (front ++ last ∷ []) (length (front ++ last ∷ []) - 1)) (Some first))) not_combined
      ∙ merge_is

-- what the two are joined into, or not
split_join : (board : Board) (e l : MemoryWrite) (front rest : List Phase) (last first : Phase) → may_combine e l ≡ false → e.phases ≡ front ++ last ∷ [] → l.phases ≡ first ∷ rest
    → join_writes board e l ≡ cond (may_merge board e l last first) (Some (record { address = e.address; phases = front ++ merged_phase last first ∷ rest })) None
split_join board e l front rest last first apart e_is l_is =
    let F : List Phase → List Phase → Type 0 = λ ps qs. may_combine (write e.address ps) (write l.address qs) ≡ false
    → join_writes board (write e.address ps) (write l.address qs) ≡ cond (may_merge board (write e.address ps) (write l.address qs) last first) (Some (write e.address (front ++ merged_phase last first ∷ rest))) None in
    let here : F (front ++ last ∷ []) (first ∷ rest) = join_is board e.address l.address front rest last first in
    let one : F (front ++ last ∷ []) l.phases = subst (λ qs. F (front ++ last ∷ []) qs) (sym l_is) here in
    subst (λ ps. F ps l.phases) (sym e_is) one apart

-- the same as the code answers it: with the data phases of the joined write, or with none
pub split_merged : (board : Board) (e l : MemoryWrite) (front rest phases : List Phase) (last first : Phase) → may_combine e l ≡ false → e.phases ≡ front ++ last ∷ [] → l.phases ≡ first ∷ rest
    → may_merge board e l last first ≡ true → phases ≡ front ++ merged_phase last first ∷ rest → Some (record { address = e.address; phases = phases }) ≡ join_writes board e l
split_merged board e l front rest phases last first apart e_is l_is may phases_are =
    let joins = split_join board e l front rest last first apart e_is l_is in
    let joined : join_writes board e l ≡ Some (write e.address (front ++ merged_phase last first ∷ rest)) = rw may at joins in
    subst (λ ps. Some (write e.address ps) ≡ join_writes board e l) (sym phases_are) (sym joined)

pub split_none : (board : Board) (e l : MemoryWrite) (front rest : List Phase) (last first : Phase) → may_combine e l ≡ false → e.phases ≡ front ++ last ∷ [] → l.phases ≡ first ∷ rest
    → may_merge board e l last first ≡ false → None ≡ join_writes board e l
split_none board e l front rest last first apart e_is l_is may =
    let joins = split_join board e l front rest last first apart e_is l_is in
    let none : join_writes board e l ≡ None = rw may at joins in
    sym none
