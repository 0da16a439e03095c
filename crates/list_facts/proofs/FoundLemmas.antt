-- More on what is found in a list.
use Rattle.std.proofs.Common.{◌≡◌, Bool, true, false, cond, ◌||◌, List, [], ◌∷◌, Some, is_some, refl}
use Rattle.std.specs.List.{find, list_any, AllByRecursion}
use Rattle.list_facts.specs.Lists.{less, before}
use Rattle.list_facts.proofs.EachLemmas.{Each-weaker}

-- where one of them passes, one is found
pub Each-found : {X : Type 0} (test : X → Bool) (xs : List X) → AllByRecursion (λ x. test x ≡ true → is_some (find test xs) ≡ true) xs
Each-found test [] = tt
Each-found {X} test (x ∷ xs) =
    let P : X → Type 0 = λ y. test y ≡ true → is_some (find test xs) ≡ true in
    let Q : X → Type 0 = λ y. test y ≡ true → is_some (find test (x ∷ xs)) ≡ true in
    let R : Bool → Type 0 = λ b. is_some (find test xs) ≡ true → is_some (cond b (Some x) (find test xs)) ≡ true in
    let behind : (y : X) → P y → Q y = λ y found passes. (elim (test x) as R [ true ↦ λ _. refl | false ↦ λ e. e ]) (found passes) in
    (λ passes. rw passes refl, Each-weaker P Q behind xs (Each-found test xs))

-- what is found stays found when another is taken away
pub find-less_kept : {X : Type 0} (test other : X → Bool) (xs : List X) (y : X) → find test xs ≡ Some y → other y ≡ false → find test (less other xs) ≡ Some y
find-less_kept test other [] y some fails = cc
find-less_kept test other (x ∷ xs) y some fails =
    let P : Bool → Type 0 = λ b. other x ≡ b → find test (cond b xs (x ∷ less other xs)) ≡ Some y in
    let Q : Bool → Type 0 = λ b. test x ≡ b → cond b (Some x) (find test xs) ≡ Some y → other x ≡ true → find test xs ≡ Some y in
    let R : Bool → Type 0 = λ b. cond b (Some x) (find test xs) ≡ Some y → cond b (Some x) (find test (less other xs)) ≡ Some y in
    (elim (other x) as P [
      | true ↦ λ gone. (elim (test x) as Q [
        | true ↦ λ _ e gone. let same : x ≡ y = cc in cc
        | false ↦ λ _ e _. e
      ]) refl some gone
      | false ↦ λ _. (elim (test x) as R [ true ↦ λ e. e | false ↦ λ e. find-less_kept test other xs y e fails ]) some
    ]) refl

-- what one test finds another finds too, where it passes and none before it does
pub find_first : {X : Type 0} (test other : X → Bool) (xs : List X) (y : X) → find test xs ≡ Some y → other y ≡ true → list_any other (before test xs) ≡ false → find other xs ≡ Some y
find_first test other [] y some passes none = cc
find_first test other (x ∷ xs) y some passes none =
    let P : Bool → Type 0 = λ b. cond b (Some x) (find test xs) ≡ Some y → list_any other (cond b [] (x ∷ before test xs)) ≡ false → cond (other x) (Some x) (find other xs) ≡ Some y in
    let Q : Bool → Type 0 = λ b. (b || list_any other (before test xs)) ≡ false → find test xs ≡ Some y → cond b (Some x) (find other xs) ≡ Some y in
    (elim (test x) as P [
      | true ↦ λ e _. let same : x ≡ y = cc in let here : other x ≡ true = cc in rw here e
      | false ↦ λ e later. (elim (other x) as Q [ true ↦ λ f _. cc | false ↦ λ f e. find_first test other xs y e passes f ]) later e
    ]) some none
