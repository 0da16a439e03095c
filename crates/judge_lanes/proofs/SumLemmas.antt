-- Sums of what is left of a list.
use Rattle.std.proofs.Common.{◌≡◌, ℕ, ◌+◌, ◌<◌, ◌≤◌, zero, suc, List, [], ◌∷◌, length, get_or, drop, add-one, arith}
use Rattle.std.proofs.Math.Seq.{drop-cons}
use Rattle.list_facts.specs.Lists.{total}

-- the sum of what is behind the first so many is not greater than that of all
pub total_drop : {X : Type 0} (weight : X → ℕ) (n : ℕ) (xs : List X) → total weight (drop n xs) ≤ total weight xs
total_drop weight zero xs = omega arith
total_drop weight (suc n) [] = omega arith
total_drop weight (suc n) (x ∷ xs) = omega (arith, total_drop weight n xs)

-- nor is one of the weights
pub total_item : {X : Type 0} (weight : X → ℕ) (n : ℕ) (xs : List X) (x : X) → n < length xs → x ≡ get_or xs n x → weight x ≤ total weight xs
total_item weight n xs x within item =
    let rest : drop n xs ≡ get_or xs n x ∷ drop (n + 1) xs = rw (add-one, drop-cons xs n x) in
    let split : drop n xs ≡ x ∷ drop (n + 1) xs = cc in
    let behind = rw split at (total_drop weight n xs) in
    omega (arith, behind)
