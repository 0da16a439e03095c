-- The first that passes: that it passes, and what stays the first when others come or go.
use Rattle.std.proofs.Common.{◌≡◌, ◌≤◌, Bool, true, false, cond, ◌||◌, List, [], ◌∷◌, ◌++◌, length, Some, None, refl, arith}
use Rattle.std.specs.List.{find, list_any}
use Rattle.list_facts.specs.Lists.{less}

-- what is found passes
pub find_passes : {X : Type 0} (test : X → Bool) (xs : List X) (y : X) → find test xs ≡ Some y → test y ≡ true
find_passes test [] y some = cc
find_passes test (x ∷ xs) y some =
    let P : Bool → Type 0 = λ b. test x ≡ b → cond b (Some x) (find test xs) ≡ Some y → test y ≡ true in
    (elim (test x) as P [ true ↦ λ passes e. let same : x ≡ y = cc in cc | false ↦ λ fails e. find_passes test xs y e ]) refl some

-- two tests that agree find the same
pub find_agree : {X : Type 0} (f g : X → Bool) → ((x : X) → f x ≡ g x) → (xs : List X) → find f xs ≡ find g xs
find_agree f g alike [] = refl
find_agree f g alike (x ∷ xs) = let here = alike x in let later = find_agree f g alike xs in cc

-- what is found stays the first when more come behind
pub find-append_found : {X : Type 0} (test : X → Bool) (xs ys : List X) (y : X) → find test xs ≡ Some y → find test (xs ++ ys) ≡ Some y
find-append_found test [] ys y some = cc
find-append_found test (x ∷ xs) ys y some =
    let P : Bool → Type 0 = λ b. cond b (Some x) (find test xs) ≡ Some y → cond b (Some x) (find test (xs ++ ys)) ≡ Some y in
    (elim (test x) as P [ true ↦ λ e. e | false ↦ λ e. find-append_found test xs ys y e ]) some

-- where nothing is found among the first, it is what is found behind
pub find-append_none : {X : Type 0} (test : X → Bool) (xs ys : List X) → find test xs ≡ None → find test (xs ++ ys) ≡ find test ys
find-append_none test [] ys none = refl
find-append_none test (x ∷ xs) ys none =
    let P : Bool → Type 0 = λ b. cond b (Some x) (find test xs) ≡ None → cond b (Some x) (find test (xs ++ ys)) ≡ find test ys in
    (elim (test x) as P [ true ↦ λ e. cc | false ↦ λ e. find-append_none test xs ys e ]) none

-- without the first that passes one test, the first that passes another is the same, where nothing passes both
pub find-less_other : {X : Type 0} (test other : X → Bool) → ((x : X) → test x ≡ true → other x ≡ false) → (xs : List X) → find other (less test xs) ≡ find other xs
find-less_other test other apart [] = refl
find-less_other test other apart (x ∷ xs) =
    let P : Bool → Type 0 = λ b. test x ≡ b → find other (cond b xs (x ∷ less test xs)) ≡ cond (other x) (Some x) (find other xs) in
    (elim (test x) as P [
      | true ↦ λ passes. let fails = apart x passes in rw fails
      | false ↦ λ fails. let later = find-less_other test other apart xs in rw later
    ]) refl

-- where nothing is found, nothing is taken away
pub less-none : {X : Type 0} (test : X → Bool) (xs : List X) → find test xs ≡ None → less test xs ≡ xs
less-none test [] none = refl
less-none test (x ∷ xs) none =
    let P : Bool → Type 0 = λ b. cond b (Some x) (find test xs) ≡ None → cond b xs (x ∷ less test xs) ≡ x ∷ xs in
    (elim (test x) as P [ true ↦ λ e. cc | false ↦ λ e. let later = less-none test xs e in cc ]) none

pub length-less : {X : Type 0} (test : X → Bool) (xs : List X) → length (less test xs) ≤ length xs
length-less test [] = omega arith
length-less test (x ∷ xs) =
    let P : Bool → Type 0 = λ b. length (cond b xs (x ∷ less test xs)) ≤ length (x ∷ xs) in
    elim (test x) as P [ true ↦ omega arith | false ↦ omega (arith, length-less test xs) ]

-- a test that some element passes finds one
pub find-none_any : {X : Type 0} (test : X → Bool) (xs : List X) → find test xs ≡ None → list_any test xs ≡ false
find-none_any test [] none = refl
find-none_any test (x ∷ xs) none =
    let P : Bool → Type 0 = λ b. cond b (Some x) (find test xs) ≡ None → (b || list_any test xs) ≡ false in
    (elim (test x) as P [ true ↦ λ e. cc | false ↦ λ e. find-none_any test xs e ]) none
