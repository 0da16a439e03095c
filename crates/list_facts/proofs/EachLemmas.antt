-- What holds of each element of a list, by recursion on the list.
use Rattle.std.proofs.Common.{◌≡◌, ℕ, zero, suc, slice_get, ◌≤◌, Bool, true, false, cond, List, [], ◌∷◌, ◌++◌, Some, subst, arith}
use Rattle.std.specs.List.{find, AllByRecursion}
use Rattle.list_facts.specs.Lists.{less, total}

pub Each-append : {X : Type 0} (P : X → Type 0) (xs ys : List X) → AllByRecursion P xs → AllByRecursion P ys → AllByRecursion P (xs ++ ys)
Each-append P [] ys here there = there
Each-append P (x ∷ xs) ys here there = (here.0, Each-append P xs ys here.1 there)

pub Each-push : {X : Type 0} (P : X → Type 0) (xs : List X) (x : X) → AllByRecursion P xs → P x → AllByRecursion P (xs ++ x ∷ [])
Each-push P xs x here new = Each-append P xs (x ∷ []) here (new, tt)

pub Each-weaker : {X : Type 0} (P Q : X → Type 0) → ((x : X) → P x → Q x) → (xs : List X) → AllByRecursion P xs → AllByRecursion Q xs
Each-weaker P Q weaker [] each = tt
Each-weaker P Q weaker (x ∷ xs) each = (weaker x each.0, Each-weaker P Q weaker xs each.1)

-- the same, where each element weighs nothing
pub Each-weaker_zero : {X : Type 0} (P Q : X → Type 0) (weight : X → ℕ) → ((x : X) → weight x ≡ 0 → P x → Q x) → (xs : List X) → total weight xs ≡ 0 → AllByRecursion P xs → AllByRecursion Q xs
Each-weaker_zero P Q weight weaker [] none each = tt
Each-weaker_zero P Q weight weaker (x ∷ xs) none each =
    (weaker x (omega arith) each.0, Each-weaker_zero P Q weight weaker xs (omega arith) each.1)

pub Each-all : {X : Type 0} (P : X → Type 0) → ((x : X) → P x) → (xs : List X) → AllByRecursion P xs
Each-all P all [] = tt
Each-all P all (x ∷ xs) = (all x, Each-all P all xs)

pub Each-less : {X : Type 0} (P : X → Type 0) (test : X → Bool) (xs : List X) → AllByRecursion P xs → AllByRecursion P (less test xs)
Each-less P test [] each = tt
Each-less P test (x ∷ xs) each =
    let Q : Bool → Type 0 = λ b. AllByRecursion P (cond b xs (x ∷ less test xs)) in
    elim (test x) as Q [ true ↦ each.1 | false ↦ (each.0, Each-less P test xs each.1) ]

-- what is found is one of them
pub Each-find : {X : Type 0} (P : X → Type 0) (test : X → Bool) (xs : List X) (y : X) → AllByRecursion P xs → find test xs ≡ Some y → P y
Each-find P test [] y each some = cc
Each-find P test (x ∷ xs) y each some =
    let Q : Bool → Type 0 = λ b. cond b (Some x) (find test xs) ≡ Some y → P y in
    (elim (test x) as Q [
      | true ↦ λ e. let same : x ≡ y = cc in subst P same each.0
      | false ↦ λ e. Each-find P test xs y each.1 e
    ]) some

-- each of them weighs at most what all weigh
pub Each-within : {X : Type 0} (xs : List X) → AllByRecursion (λ x. (weight : X → ℕ) → weight x ≤ total weight xs) xs
Each-within [] = tt
Each-within {X} (x ∷ xs) =
    let P : X → Type 0 = λ y. (weight : X → ℕ) → weight y ≤ total weight xs in
    let Q : X → Type 0 = λ y. (weight : X → ℕ) → weight y ≤ total weight (x ∷ xs) in
    (λ weight. omega arith, Each-weaker P Q (λ y within weight. omega (arith, within weight)) xs (Each-within xs))

-- two facts of each are one fact of each
pub Each-both : {X : Type 0} (P Q : X → Type 0) (xs : List X) → AllByRecursion P xs → AllByRecursion Q xs → AllByRecursion (λ x. P x × Q x) xs
Each-both P Q [] first second = tt
Each-both P Q (x ∷ xs) first second = ((first.0, second.0), Each-both P Q xs first.1 second.1)

-- the element at a place is one of them
pub Each-slice_get : {X : Type 0} (P : X → Type 0) (xs : List X) (place : ℕ) (x : X) → AllByRecursion P xs → slice_get xs place ≡ Some x → P x
Each-slice_get P [] place x each some = cc
Each-slice_get P (y ∷ xs) zero x each some = let same : y ≡ x = cc in subst P same each.0
Each-slice_get P (y ∷ xs) (suc place) x each some = Each-slice_get P xs place x each.1 some
