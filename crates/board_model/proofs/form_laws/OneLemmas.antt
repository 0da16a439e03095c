-- At most one element of a list passes a test, where no two pass.
use Rattle.std.proofs.Common.{◌≡◌, ℕ, ◌+◌, Bool, true, false, cond, ◌||◌, List, [], ◌∷◌, filter, Option, Some, None, option_to_list, refl, ap}
use Rattle.std.specs.List.{find, list_any, position_from}
use Rattle.std.proofs.lemmas.Bool.{or_parts}
use Rattle.board_model.specs.declared.agents.Target.{Target as TargetAgent}
use Rattle.board_model.specs.declared.bridge.Place.{Place}
use Rattle.board_model.specs.declared.bridge.Place.TheVariants.{Target}
use Rattle.board_model.specs.Valid.{some_two}
use Rattle.board_model.specs.form_laws.Claimants.{targets_from}

-- what is found of the elements that pass
pub record Found {X : Type 0} (test : X → Bool) (xs : List X) : Type 0 where
  pub one : X
  pub is : find test xs ≡ Some one

pub found_any : {X : Type 0} (test : X → Bool) (xs : List X) → list_any test xs ≡ true → Found test xs
found_any test [] any = cc
found_any {X} test (x ∷ xs) any =
    let P : Bool → Type 0 = λ b. test x ≡ b → (b || list_any test xs) ≡ true → Found test (x ∷ xs) in
    (elim (test x) as P [
      | true ↦ λ passes e. record { one = x; is = rw passes refl }
      | false ↦ λ fails e. let later = found_any test xs e in record { one = later.one; is = rw fails later.is }
    ]) refl any

pub found_place : {X : Type 0} (test : X → Bool) (place : ℕ) (xs : List X) (at : ℕ) → position_from test place xs ≡ Some at → Found test xs
found_place test place [] at some = cc
found_place {X} test place (x ∷ xs) at some =
    let P : Bool → Type 0 = λ b. test x ≡ b → cond b (Some place) (position_from test (place + 1) xs) ≡ Some at → Found test (x ∷ xs) in
    (elim (test x) as P [
      | true ↦ λ passes e. record { one = x; is = rw passes refl }
      | false ↦ λ fails e. let later = found_place test (place + 1) xs at e in record { one = later.one; is = rw fails later.is }
    ]) refl some

-- where no two pass, none passes beside one that does
none_beside : {X : Type 0} (pair : X → X → Bool) (test : X → Bool) → ((x y : X) → test x ≡ true → test y ≡ true → pair x y ≡ true)
    → (x : X) (xs : List X) → test x ≡ true → list_any (pair x) xs ≡ false → list_any test xs ≡ false
none_beside pair test meet x [] passes none = refl
none_beside pair test meet x (y ∷ xs) passes none =
    let parts = or_parts (pair x y) (list_any (pair x) xs) none in
    let later : list_any test xs ≡ false = none_beside pair test meet x xs passes parts.1 in
    let P : Bool → Type 0 = λ b. test y ≡ b → (b || list_any test xs) ≡ false in
    (elim (test y) as P [ true ↦ λ e. let both : pair x y ≡ true = meet x y passes e in let apart : pair x y ≡ false = parts.0 in cc | false ↦ λ e. later ]) refl

pub filter_none : {X : Type 0} (test : X → Bool) (xs : List X) → list_any test xs ≡ false → filter test xs ≡ []
filter_none test [] none = refl
filter_none test (x ∷ xs) none = let parts = or_parts (test x) (list_any test xs) none in rw (parts.0) (filter_none test xs parts.1)

pub filter_one : {X : Type 0} (pair : X → X → Bool) (test : X → Bool) → ((x y : X) → test x ≡ true → test y ≡ true → pair x y ≡ true)
    → (xs : List X) → some_two pair xs ≡ false → filter test xs ≡ option_to_list (find test xs)
filter_one pair test meet [] apart = refl
filter_one pair test meet (x ∷ xs) apart =
    let parts = or_parts (list_any (pair x) xs) (some_two pair xs) apart in
    let P : Bool → Type 0 = λ b. test x ≡ b → cond b (x ∷ filter test xs) (filter test xs) ≡ option_to_list (cond b (Some x) (find test xs)) in
    (elim (test x) as P [
      | true ↦ λ passes. ap (λ rest. x ∷ rest) (filter_none test xs (none_beside pair test meet x xs passes parts.0))
      | false ↦ λ fails. filter_one pair test meet xs parts.1
    ]) refl

targets_none : (test : TargetAgent → Bool) (place : ℕ) (xs : List TargetAgent) → list_any test xs ≡ false → targets_from test place xs ≡ []
targets_none test place [] none = refl
targets_none test place (x ∷ xs) none = let parts = or_parts (test x) (list_any test xs) none in rw (parts.0) (targets_none test (place + 1) xs parts.1)

-- the place of a target, where there is one
abbrev pub target_list : Option ℕ → List Place
target_list None = []
target_list (Some place) = Target place ∷ []

pub targets_one : (pair : TargetAgent → TargetAgent → Bool) (test : TargetAgent → Bool) → ((x y : TargetAgent) → test x ≡ true → test y ≡ true → pair x y ≡ true)
    → (place : ℕ) (xs : List TargetAgent) → some_two pair xs ≡ false → targets_from test place xs ≡ target_list (position_from test place xs)
targets_one pair test meet place [] apart = refl
targets_one pair test meet place (x ∷ xs) apart =
    let parts = or_parts (list_any (pair x) xs) (some_two pair xs) apart in
    let P : Bool → Type 0 = λ b. test x ≡ b → cond b (Target place ∷ targets_from test (place + 1) xs) (targets_from test (place + 1) xs) ≡ target_list (cond b (Some place) (position_from test (place + 1) xs)) in
    (elim (test x) as P [
      | true ↦ λ passes. ap (λ rest. Target place ∷ rest) (targets_none test (place + 1) xs (none_beside pair test meet x xs passes parts.0))
      | false ↦ λ fails. targets_one pair test meet (place + 1) xs parts.1
    ]) refl
