-- One more of a list is counted.
use Rattle.std.proofs.Common.{◌≡◌, ℕ, ◌+◌, ◌<◌, List, ◌∷◌, length, get_or, drop, add-one, ap, subst, ◌∙◌, arith}
use Rattle.std.proofs.Math.Seq.{drop-cons}
use Rattle.list_facts.specs.Lists.{total}

pub total_more : {X : Type 0} (weight : X → ℕ) (items xs : List X) (i : ℕ) (x : X) (so_far here all : ℕ) → items ≡ xs → i < length items → here ≡ weight (get_or items i x)
    → so_far + total weight (drop i xs) ≡ all → (so_far + here) + total weight (drop (i + 1) xs) ≡ all
total_more {X} weight items xs i x so_far here all same within is before =
    let its : drop i items ≡ get_or items i x ∷ drop (i + 1) items = rw (add-one, drop-cons items i x) in
    let rest : drop i xs ≡ get_or xs i x ∷ drop (i + 1) xs = subst (λ (l : List X). drop i l ≡ get_or l i x ∷ drop (i + 1) l) same its in
    let one : here ≡ weight (get_or xs i x) = is ∙ ap (λ (l : List X). weight (get_or l i x)) same in
    let before2 = rw rest at before in
    omega (arith, before2, one)
