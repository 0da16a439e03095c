-- What a test of all elements of a list says of each.
use Rattle.std.proofs.Common.{◌≡◌, ℕ, zero, suc, Bool, true, false, List, [], ◌∷◌, Some, subst, slice_get}
use Rattle.std.specs.List.{list_all, list_any, AllByRecursion}
use Rattle.std.proofs.lemmas.Bool.{and_parts, or_parts}

-- where all pass, each does
pub Each-list_all : {X : Type 0} (test : X → Bool) (xs : List X) → list_all test xs ≡ true → AllByRecursion (λ x. test x ≡ true) xs
Each-list_all test [] all = tt
Each-list_all test (x ∷ xs) all = let parts = and_parts (test x) (list_all test xs) all in (parts.0, Each-list_all test xs parts.1)

-- where none passes, each fails
pub Each-list_any : {X : Type 0} (test : X → Bool) (xs : List X) → list_any test xs ≡ false → AllByRecursion (λ x. test x ≡ false) xs
Each-list_any test [] none = tt
Each-list_any test (x ∷ xs) none = let parts = or_parts (test x) (list_any test xs) none in (parts.0, Each-list_any test xs parts.1)

-- where all pass, the one at a place does
pub list_all-get : {X : Type 0} (test : X → Bool) (xs : List X) (place : ℕ) (x : X) → list_all test xs ≡ true → slice_get xs place ≡ Some x → test x ≡ true
list_all-get test [] place x all found = cc
list_all-get {X = X} test (y ∷ ys) zero x all found =
    let same : y ≡ x = cc in
    let P : X → Type 0 = λ z. test z ≡ true in
    subst P same (and_parts (test y) (list_all test ys) all).0
list_all-get test (y ∷ ys) (suc place) x all found = list_all-get test ys place x (and_parts (test y) (list_all test ys) all).1 found
