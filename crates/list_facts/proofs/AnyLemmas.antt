-- Tests over lists, when elements come and go, and sums over them.
use Rattle.std.proofs.Common.{◌≡◌, ℕ, ◌+◌, ◌≤◌, Bool, true, false, ◌||◌, cond, List, [], ◌∷◌, ◌++◌, Some, None, refl, ◌∙◌, arith}
use Rattle.std.specs.List.{find, list_any, AllByRecursion}
use Rattle.list_facts.specs.Lists.{less, total}
use Rattle.list_facts.proofs.TotalLemmas.{total-le}

-- where one passes, one is found
pub any_some : {X : Type 0} (test : X → Bool) (xs : List X) → list_any test xs ≡ true → (y : X) × (find test xs ≡ Some y)
any_some test [] is = cc
any_some {X} test (x ∷ xs) is =
    let P : Bool → Type 0 = λ b. (b || list_any test xs) ≡ true → (y : X) × (cond b (Some x) (find test xs) ≡ Some y) in
    (elim (test x) as P [ true ↦ λ _. (x, refl) | false ↦ λ e. any_some test xs e ]) is

-- where none passes, none is found
pub any_none : {X : Type 0} (test : X → Bool) (xs : List X) → list_any test xs ≡ false → find test xs ≡ None
any_none test [] none = refl
any_none test (x ∷ xs) none =
    let P : Bool → Type 0 = λ b. (b || list_any test xs) ≡ false → cond b (Some x) (find test xs) ≡ None in
    (elim (test x) as P [ true ↦ λ e. cc | false ↦ λ e. any_none test xs e ]) none

-- where one is found, one passes
pub find_any : {X : Type 0} (test : X → Bool) (xs : List X) (y : X) → find test xs ≡ Some y → list_any test xs ≡ true
find_any test [] y some = cc
find_any test (x ∷ xs) y some =
    let P : Bool → Type 0 = λ b. cond b (Some x) (find test xs) ≡ Some y → (b || list_any test xs) ≡ true in
    (elim (test x) as P [ true ↦ λ _. refl | false ↦ λ e. find_any test xs y e ]) some

-- where those that pass weigh and nothing does, none passes
pub weigh_none : {X : Type 0} (test : X → Bool) (weight : X → ℕ) → ((x : X) → test x ≡ true → 1 ≤ weight x) → (xs : List X) → total weight xs ≡ 0 → list_any test xs ≡ false
weigh_none test weight weighs [] none = refl
weigh_none test weight weighs (x ∷ xs) none =
    let later : list_any test xs ≡ false = weigh_none test weight weighs xs (omega arith) in
    let P : Bool → Type 0 = λ b. test x ≡ b → (b || list_any test xs) ≡ false in
    (elim (test x) as P [ true ↦ λ passes. absurd (omega (arith, weighs x passes)) | false ↦ λ _. later ]) refl

-- one more at the end
pub any-push : {X : Type 0} (test : X → Bool) (xs : List X) (y : X) → list_any test (xs ++ y ∷ []) ≡ (list_any test xs || test y)
any-push test [] y =
    let P : Bool → Type 0 = λ b. (b || false) ≡ b in
    elim (test y) as P [ true ↦ refl | false ↦ refl ]
any-push test (x ∷ xs) y =
    let later = any-push test xs y in
    let P : Bool → Type 0 = λ b. (b || list_any test (xs ++ y ∷ [])) ≡ ((b || list_any test xs) || test y) in
    elim (test x) as P [ true ↦ refl | false ↦ later ]

-- one more that fails changes nothing
pub any-push_other : {X : Type 0} (test : X → Bool) (xs : List X) (y : X) → test y ≡ false → list_any test (xs ++ y ∷ []) ≡ list_any test xs
any-push_other test xs y fails =
    let P : Bool → Type 0 = λ b. (b || false) ≡ b in
    let same : (list_any test xs || false) ≡ list_any test xs = elim (list_any test xs) as P [ true ↦ refl | false ↦ refl ] in
    any-push test xs y ∙ rw fails same

-- one more that passes
pub any-push_here : {X : Type 0} (test : X → Bool) (xs : List X) (y : X) → test y ≡ true → list_any test (xs ++ y ∷ []) ≡ true
any-push_here test xs y passes =
    let P : Bool → Type 0 = λ b. (b || true) ≡ true in
    let is : (list_any test xs || true) ≡ true = elim (list_any test xs) as P [ true ↦ refl | false ↦ refl ] in
    any-push test xs y ∙ rw passes is

-- one that fails is taken away
pub any-less_found : {X : Type 0} (test other : X → Bool) (xs : List X) (y : X) → find other xs ≡ Some y → test y ≡ false → list_any test (less other xs) ≡ list_any test xs
any-less_found test other [] y some fails = refl
any-less_found test other (x ∷ xs) y some fails =
    let later = any-less_found test other xs y in
    let P : Bool → Type 0 = λ b. cond b (Some x) (find other xs) ≡ Some y → list_any test (cond b xs (x ∷ less other xs)) ≡ (test x || list_any test xs) in
    (elim (other x) as P [
      | true ↦ λ e. let same : x ≡ y = cc in let here : test x ≡ false = cc in rw here refl
      | false ↦ λ e. rw (later e fails) refl
    ]) some

-- of another kind, whatever is taken away
pub any-less_kind : {X : Type 0} (test other : X → Bool) → ((x : X) → other x ≡ true → test x ≡ false) → (xs : List X) → list_any test (less other xs) ≡ list_any test xs
any-less_kind test other apart [] = refl
any-less_kind test other apart (x ∷ xs) =
    let later = any-less_kind test other apart xs in
    let P : Bool → Type 0 = λ b. other x ≡ b → list_any test (cond b xs (x ∷ less other xs)) ≡ (test x || list_any test xs) in
    (elim (other x) as P [ true ↦ λ is. rw (apart x is) refl | false ↦ λ _. rw later refl ]) refl

-- sums of weights that are each no greater
pub total_each : {X : Type 0} (f g : X → ℕ) (xs : List X) → AllByRecursion (λ x. f x ≤ g x) xs → total f xs ≤ total g xs
total_each f g [] each = omega arith
total_each f g (x ∷ xs) each = omega (arith, each.0, total_each f g xs each.1)

-- where one passes, something weighs
pub any_weighs : {X : Type 0} (test : X → Bool) (weight : X → ℕ) → ((x : X) → test x ≡ true → 1 ≤ weight x) → (xs : List X) → list_any test xs ≡ true → 1 ≤ total weight xs
any_weighs test weight weighs [] is = cc
any_weighs test weight weighs (x ∷ xs) is =
    let P : Bool → Type 0 = λ b. test x ≡ b → (b || list_any test xs) ≡ true → 1 ≤ weight x + total weight xs in
    (elim (test x) as P [ true ↦ λ passes _. omega (arith, weighs x passes) | false ↦ λ _ e. omega (arith, any_weighs test weight weighs xs e) ]) refl is

-- what one test finds another passes
pub found_any : {X : Type 0} (test other : X → Bool) (xs : List X) (y : X) → find test xs ≡ Some y → other y ≡ true → list_any other xs ≡ true
found_any test other [] y some passes = cc
found_any test other (x ∷ xs) y some passes =
    let later = found_any test other xs y in
    let P : Bool → Type 0 = λ b. cond b (Some x) (find test xs) ≡ Some y → (other x || list_any other xs) ≡ true in
    let Q : Bool → Type 0 = λ b. (b || list_any other xs) ≡ true in
    (elim (test x) as P [
      | true ↦ λ e. let same : x ≡ y = cc in let here : other x ≡ true = cc in rw here refl
      | false ↦ λ e. elim (other x) as Q [ true ↦ refl | false ↦ later e passes ]
    ]) some

-- one more at the end that fails is not found
pub find-push_other : {X : Type 0} (test : X → Bool) (xs : List X) (y : X) → test y ≡ false → find test (xs ++ y ∷ []) ≡ find test xs
find-push_other test [] y fails = rw fails refl
find-push_other test (x ∷ xs) y fails = let later = find-push_other test xs y fails in rw later refl

-- what is found stays so where another is taken away
pub find-less_same : {X : Type 0} (test other : X → Bool) (xs : List X) → ((y : X) → find test xs ≡ Some y → other y ≡ false) → find test (less other xs) ≡ find test xs
find-less_same test other [] apart = refl
find-less_same {X} test other (x ∷ xs) apart =
    let P : Bool → Type 0 = λ b. other x ≡ b → ((y : X) → cond (test x) (Some x) (find test xs) ≡ Some y → other y ≡ false) → find test (cond b xs (x ∷ less other xs)) ≡ cond (test x) (Some x) (find test xs) in
    let Q : Bool → Type 0 = λ b. ((y : X) → cond b (Some x) (find test xs) ≡ Some y → other y ≡ false) → other x ≡ true → find test xs ≡ cond b (Some x) (find test xs) in
    let R : Bool → Type 0 = λ b. ((y : X) → cond b (Some x) (find test xs) ≡ Some y → other y ≡ false) → cond b (Some x) (find test (less other xs)) ≡ cond b (Some x) (find test xs) in
    (elim (other x) as P [
      | true ↦ λ gone away. (elim (test x) as Q [ true ↦ λ far is. let fails = far x refl in cc | false ↦ λ _ _. refl ]) away gone
      | false ↦ λ _ away. (elim (test x) as R [ true ↦ λ _. refl | false ↦ λ far. find-less_same test other xs far ]) away
    ]) refl apart

-- where none passes, what is found fails
pub found_fails : {X : Type 0} (test other : X → Bool) (xs : List X) (y : X) → find test xs ≡ Some y → list_any other xs ≡ false → other y ≡ false
found_fails test other xs y some none =
    let P : Bool → Type 0 = λ b. other y ≡ b → b ≡ false in
    (elim (other y) as P [ true ↦ λ passes. let any = found_any test other xs y some passes in cc | false ↦ λ _. refl ]) refl

-- sums of the same weights
pub total_same : {X : Type 0} (f g : X → ℕ) → ((x : X) → f x ≡ g x) → (xs : List X) → total f xs ≡ total g xs
total_same f g same [] = refl
total_same f g same (x ∷ xs) = omega (arith, same x, total_same f g same xs)

-- sums of weights that are each no greater, one of them by so much less
pub total_falls : {X : Type 0} (f g : X → ℕ) (test : X → Bool) (d : ℕ) → ((x : X) → f x ≤ g x) → ((x : X) → test x ≡ true → f x + d ≤ g x) → (xs : List X) → list_any test xs ≡ true → total f xs + d ≤ total g xs
total_falls f g test d each one [] is = cc
total_falls f g test d each one (x ∷ xs) is =
    let P : Bool → Type 0 = λ b. test x ≡ b → (b || list_any test xs) ≡ true → f x + total f xs + d ≤ g x + total g xs in
    (elim (test x) as P [
      | true ↦ λ passes _. omega (arith, one x passes, total-le f g each xs)
      | false ↦ λ _ e. omega (arith, each x, total_falls f g test d each one xs e)
    ]) refl is

-- where none passes, none does where another is taken away
pub any-less_none : {X : Type 0} (test other : X → Bool) (xs : List X) → list_any test xs ≡ false → list_any test (less other xs) ≡ false
any-less_none test other [] none = refl
any-less_none test other (x ∷ xs) none =
    let P : Bool → Type 0 = λ b. (b || list_any test xs) ≡ false → (b ≡ false) × (list_any test xs ≡ false) in
    let parts = (elim (test x) as P [ true ↦ λ e. cc | false ↦ λ e. (refl, e) ]) none in
    let here : test x ≡ false = parts.0 in
    let later = any-less_none test other xs parts.1 in
    let Q : Bool → Type 0 = λ b. list_any test (cond b xs (x ∷ less other xs)) ≡ false in
    elim (other x) as Q [ true ↦ parts.1 | false ↦ rw here later ]
