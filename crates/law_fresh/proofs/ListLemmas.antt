-- Truth values and lists, apart from any board.
use Rattle.std.proofs.Common.{◌≡◌, ℕ, zero, suc, ◌+◌, ◌<◌, Bool, true, false, ◌||◌, cond, List, [], ◌∷◌, length, Some, refl, subst, arith, slice_get, slice_index_or}
use Rattle.std.specs.List.{position_from, AllByRecursion}
use Rattle.std.proofs.lemmas.Bool.{or_left, or_right}

-- one of two is true
pub or_either : (X : Type 0) (a b : Bool) → (a ≡ true → X) → (b ≡ true → X) → (a || b) ≡ true → X
or_either X true b first second is = first refl
or_either X false b first second is = second is

-- the first of two is true more often
pub or_weaker : (a b c : Bool) → (a ≡ true → b ≡ true) → (a || c) ≡ true → (b || c) ≡ true
or_weaker a b c surer is = or_either ((b || c) ≡ true) a c (λ e. or_left b c (surer e)) (λ e. or_right b c e) is

-- what is found by its place passes
pub record At {X : Type 0} (test : X → Bool) (xs : List X) (place at : ℕ) : Type 0 where
  pub one : X
  pub index : ℕ
  pub is_at : at ≡ place + index
  pub is : slice_get xs index ≡ Some one
  pub passes : test one ≡ true

-- the element at the place that was found passes
pub found_at : {X : Type 0} (test : X → Bool) (place : ℕ) (xs : List X) (at : ℕ) → position_from test place xs ≡ Some at → At test xs place at
found_at test place [] at some = cc
found_at {X} test place (x ∷ xs) at some =
    let P : Bool → Type 0 = λ b. test x ≡ b → cond b (Some place) (position_from test (place + 1) xs) ≡ Some at → At test (x ∷ xs) place at in
    (elim (test x) as P [
      | true ↦ λ passes e. let same : place ≡ at = cc in record { one = x; index = 0; is_at = omega arith; is = refl; passes = passes }
      | false ↦ λ fails e.
          let later = found_at test (place + 1) xs at e in
          let where_it_is : at ≡ place + 1 + later.index = later.is_at in
          record { one = later.one; index = suc later.index; is_at = omega arith; is = later.is; passes = later.passes }
    ]) refl some

-- what holds of each holds of what is among them
pub each_contains : {X : Type 0} (P : X → Type 0) (xs : List X) (x : X) → AllByRecursion P xs → (k : ℕ) → k < length xs → slice_index_or xs k x ≡ x → P x
each_contains P [] x each k below is = absurd (omega (arith, below))
each_contains P (y ∷ xs) x each zero below is = subst P is each.0
each_contains P (y ∷ xs) x each (suc k) below is = each_contains P xs x each.1 k (omega (arith, below)) is
