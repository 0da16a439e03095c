-- Sums over lists: of lists joined, of what is left without the first that passes, and their bounds.
use Rattle.std.proofs.Common.{◌≡◌, ℕ, ◌+◌, ◌*◌, ◌≤◌, Bool, true, false, cond, List, [], ◌∷◌, ◌++◌, length, Option, Some, None, refl, arith}
use Rattle.std.specs.List.{find}
use Rattle.list_facts.specs.Lists.{less, total}

-- the weight of what was found, 0 where nothing was
abbrev pub found : {X : Type 0} → (X → ℕ) → Option X → ℕ
found weight None = 0
found weight (Some x) = weight x

pub total-append : {X : Type 0} (weight : X → ℕ) (xs ys : List X) → total weight (xs ++ ys) ≡ total weight xs + total weight ys
total-append weight [] ys = omega arith
total-append weight (x ∷ xs) ys = omega (arith, total-append weight xs ys)

pub total-push : {X : Type 0} (weight : X → ℕ) (xs : List X) (x : X) → total weight (xs ++ x ∷ []) ≡ total weight xs + weight x
total-push weight xs x = omega (arith, total-append weight xs (x ∷ []))

-- the first that passes takes its weight away
pub total-less : {X : Type 0} (weight : X → ℕ) (test : X → Bool) (xs : List X) → total weight (less test xs) + found weight (find test xs) ≡ total weight xs
total-less weight test [] = refl
total-less weight test (x ∷ xs) =
    let P : Bool → Type 0 = λ b. total weight (cond b xs (x ∷ less test xs)) + found weight (cond b (Some x) (find test xs)) ≡ weight x + total weight xs in
    elim (test x) as P [ true ↦ omega arith | false ↦ omega (arith, total-less weight test xs) ]

-- a sum by weights that are nowhere greater is not greater
pub total-le : {X : Type 0} (f g : X → ℕ) → ((x : X) → f x ≤ g x) → (xs : List X) → total f xs ≤ total g xs
total-le f g below [] = omega arith
total-le f g below (x ∷ xs) = omega (arith, below x, total-le f g below xs)

pub total-zero : {X : Type 0} (f : X → ℕ) → ((x : X) → f x ≡ 0) → (xs : List X) → total f xs ≡ 0
total-zero f none [] = refl
total-zero f none (x ∷ xs) = omega (arith, none x, total-zero f none xs)

-- where all weights are alike, the sum is their number times that weight
pub total-alike : {X : Type 0} (f : X → ℕ) (n : ℕ) → ((x : X) → f x ≡ n) → (xs : List X) → total f xs ≡ length xs * n
total-alike f n alike [] = omega arith
total-alike f n alike (x ∷ xs) = omega (arith, alike x, total-alike f n alike xs)

-- the sum by two weights is that of both sums
pub total-plus : {X : Type 0} (f g h : X → ℕ) → ((x : X) → h x ≡ f x + g x) → (xs : List X) → total h xs ≡ total f xs + total g xs
total-plus f g h both [] = omega arith
total-plus f g h both (x ∷ xs) = omega (arith, both x, total-plus f g h both xs)

-- what was found is among those that are summed
pub found-le : {X : Type 0} (weight : X → ℕ) (test : X → Bool) (xs : List X) → found weight (find test xs) ≤ total weight xs
found-le weight test xs = omega (arith, total-less weight test xs)
