-- The greatest weight, element by element.
use Rattle.std.proofs.Common.{◌≡◌, ℕ, ◌+◌, ◌<◌, List, ◌∷◌, length, get_or, drop, max, add-one, arith}
use Rattle.std.proofs.Math.Seq.{drop-cons}
use Rattle.list_facts.specs.Lists.{greatest}

-- one element more is looked at: the greatest so far, or of those to come, stays the greatest of all
pub greatest_step : {X : Type 0} (weight : X → ℕ) (xs : List X) (i : ℕ) (x : X) (so_far here now all : ℕ) → i < length xs → x ≡ get_or xs i x → here ≡ weight x → now ≡ max so_far here
    → max so_far (greatest weight (drop i xs)) ≡ all → max now (greatest weight (drop (i + 1) xs)) ≡ all
greatest_step weight xs i x so_far here now all within item weighs larger before =
    let rest : drop i xs ≡ get_or xs i x ∷ drop (i + 1) xs = rw (add-one, drop-cons xs i x) in
    let split : drop i xs ≡ x ∷ drop (i + 1) xs = cc in
    let before2 = rw split at before in
    omega (arith, before2, larger, weighs)
