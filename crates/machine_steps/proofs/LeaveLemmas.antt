-- The first element that passes leaves a list.
use Rattle.std.proofs.Common.{◌≡◌, ℕ, suc, ◌+◌, ◌<◌, ◌≤◌, Bool, true, false, cond, ltb, List, [], ◌∷◌, length, None, Some, not, refl, ap, ◌∙◌, arith, get_or, take}
use Rattle.std.specs.List.{position, position_or_len, remove, find}
use Rattle.std.proofs.lemmas.Bool.{ltb-false, ltb-true}
use Rattle.std.proofs.lemmas.List.Folds.{find_at}
use Rattle.std.proofs.lemmas.Option.{cond_some, slice_get_past, slice_get-get_or}
use Rattle.std.proofs.lemmas.List.{take_all}
use Rattle.list_facts.specs.Lists.{less, before}
use Rattle.list_facts.proofs.FindLemmas.{less-none, length-less}

remove-position_or_len : {X : Type 0} (test : X → Bool) (xs : List X) → remove xs (position_or_len test xs) ≡ less test xs
remove-position_or_len test [] = refl
remove-position_or_len {X = X} test (first ∷ later) =
    let n = position_or_len test later in
    let P : Bool → Type 0 = λ b. remove (first ∷ later) (cond (not b) (1 + n) 0) ≡ cond b later (first ∷ less test later) in
    let more : 1 + n ≡ suc n = omega arith in
    elim (test first) as P [
      | true ↦ refl
      | false ↦ rw more (ap (λ (rest : List X). first ∷ rest) (remove-position_or_len test later))
    ]

pub removes_first : {X : Type 0} (test : X → Bool) (xs : List X) (place : ℕ) → position test xs ≡ Some place → remove xs place ≡ less test xs
removes_first test xs place found =
    let at = cond_some _ _ _ found in
    rw (← at.1) (remove-position_or_len test xs)

-- where no place passes, none is found
pub finds_none : {X : Type 0} (test : X → Bool) (xs : List X) → position test xs ≡ None → find test xs ≡ None
finds_none test xs found =
    let n = position_or_len test xs in
    let P : Bool → Type 0 = λ b. ltb n (length xs) ≡ b → cond b (Some n) None ≡ None → length xs ≤ n in
    let past = (elim (ltb n (length xs)) as P [ true ↦ λ _ some. cc | false ↦ λ above _. ltb-false n (length xs) above ]) refl found in
    find_at test xs ∙ slice_get_past xs n past

pub leaves_none : {X : Type 0} (test : X → Bool) (xs : List X) → position test xs ≡ None → less test xs ≡ xs
leaves_none test xs found = less-none test xs (finds_none test xs found)

-- the element at the first place that passes is found
pub finds_first : {X : Type 0} (test : X → Bool) (xs : List X) (place : ℕ) (d : X) → position test xs ≡ Some place → find test xs ≡ Some (get_or xs place d)
finds_first test xs place d found =
    let at = cond_some _ _ _ found in
    let n = position_or_len test xs in
    let within : n < length xs = ltb-true n (length xs) at.0 in
    find_at test xs ∙ (slice_get-get_or xs n d within ∙ ap (λ (i : ℕ). Some (get_or xs i d)) at.1)

-- no more are left
pub no_more : {X : Type 0} (test : X → Bool) (xs : List X) → length (less test xs) ≤ length xs
no_more test xs = length-less test xs

before-position_or_len : {X : Type 0} (test : X → Bool) (xs : List X) → before test xs ≡ take (position_or_len test xs) xs
before-position_or_len test [] = refl
before-position_or_len {X = X} test (first ∷ later) =
    let n = position_or_len test later in
    let P : Bool → Type 0 = λ b. cond b [] (first ∷ before test later) ≡ take (cond (not b) (1 + n) 0) (first ∷ later) in
    let more : 1 + n ≡ suc n = omega arith in
    elim (test first) as P [
      | true ↦ refl
      | false ↦ rw more (ap (λ (rest : List X). first ∷ rest) (before-position_or_len test later))
    ]

-- what stands before the first that passes is the front of the list up to its place
pub front_there : {X : Type 0} (test : X → Bool) (xs : List X) (place : ℕ) → position test xs ≡ Some place → (before test xs ≡ take place xs) × (place ≤ length xs)
front_there test xs place found =
    let at = cond_some _ _ _ found in
    let n = position_or_len test xs in
    let within : n < length xs = ltb-true n (length xs) at.0 in
    (before-position_or_len test xs ∙ ap (λ (i : ℕ). take i xs) at.1, omega (arith, at.1))

-- where no place passes, all stand before
pub front_none : {X : Type 0} (test : X → Bool) (xs : List X) → position test xs ≡ None → before test xs ≡ xs
front_none test [] found = refl
front_none {X = X} test xs found =
    let n = position_or_len test xs in
    let P : Bool → Type 0 = λ b. ltb n (length xs) ≡ b → cond b (Some n) None ≡ None → length xs ≤ n in
    let past = (elim (ltb n (length xs)) as P [ true ↦ λ _ some. cc | false ↦ λ above _. ltb-false n (length xs) above ]) refl found in
    before-position_or_len test xs ∙ take_all n xs past
