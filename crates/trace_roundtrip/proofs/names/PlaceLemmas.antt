-- Where names stand apart, each is found at its own place.
use Rattle.std.proofs.Common.{◌≡◌, ℕ, zero, suc, ◌^◌, ◌<◌, Bool, true, false, leb, ltb, not, List, [], ◌∷◌, length, Some, refl, sym, subst, arith, inl, inr}
use Rattle.std.specs.Prelude.{slice_get, ◌&&◌}
use Rattle.std.specs.List.{list_any, position_or_len, position}
use Rattle.std.specs.Str.{bytes_eq}
use Rattle.std.proofs.lemmas.Bool.{and_parts, or_parts, not-true, false_from_ne_true}
use Rattle.std.proofs.lemmas.Bool.Decides.{nat_tests}
use Rattle.std.proofs.lemmas.Slice.Eq.{bytes_eq-Decides}
use Rattle.std.proofs.lemmas.Option.{slice_get_within, slice_get_cases}
use Rattle.board_model.specs.declared.agents.Target.{Target}
use Rattle.board_model.specs.declared.agents.Master.{Master}
use Rattle.board_model.specs.WellFormed.{is_target_named, is_master_named, are_masters_named_apart, are_targets_named_apart}
use Rattle.trace_reader.specs.lines.Words.{at_most}

-- whether an element has this name
abbrev has_name : {X : Type 0} → (X → List ℕ) → List ℕ → X → Bool
has_name name word x = bytes_eq (name x) word

-- no two elements have one name
abbrev pub Apart : {X : Type 0} → (X → List ℕ) → List X → Type 0
Apart name [] = Unit {0}
Apart name (x ∷ xs) = (list_any (has_name name (name x)) xs ≡ false) × Apart name xs

-- masters that the test finds named apart are so
pub masters_apart : (masters : List Master) → are_masters_named_apart masters ≡ true → Apart (λ (master : Master). master.name) masters
masters_apart [] apart = tt
masters_apart (master ∷ masters) apart =
    let parts = and_parts (not (list_any (is_master_named master.name) masters)) (are_masters_named_apart masters) apart in
    (not-true _ parts.0, masters_apart masters parts.1)

-- and so are targets
pub targets_apart : (masters : List Master) (targets : List Target) → are_targets_named_apart masters targets ≡ true → Apart (λ (target : Target). target.name) targets
targets_apart masters [] apart = tt
targets_apart masters (target ∷ targets) apart =
    let parts = and_parts (not (list_any (is_target_named target.name) targets) && not (list_any (is_master_named target.name) masters)) (are_targets_named_apart masters targets) apart in
    let named = and_parts (not (list_any (is_target_named target.name) targets)) (not (list_any (is_master_named target.name) masters)) parts.0 in
    (not-true _ named.0, targets_apart masters targets parts.1)

-- a word has its own bytes
same_bytes : (word : List ℕ) → bytes_eq word word ≡ true
same_bytes word = (bytes_eq-Decides word word).1 refl

-- two words that differ do so both ways
bytes-swap : (a b : List ℕ) → bytes_eq a b ≡ false → bytes_eq b a ≡ false
bytes-swap a b differ =
    false_from_ne_true (bytes_eq b a) (λ same. absurd (let again = (bytes_eq-Decides a b).1 (sym ((bytes_eq-Decides b a).0 same)) in cc))

-- what no element passes, the one at a place does not
none_at : {X : Type 0} (test : X → Bool) (xs : List X) (index : ℕ) (x : X) → list_any test xs ≡ false → slice_get xs index ≡ Some x → test x ≡ false
none_at test [] index x none found = cc
none_at {X = X} test (y ∷ ys) zero x none found =
    let same : y ≡ x = cc in
    let P : X → Type 0 = λ z. test z ≡ false in
    subst P same (or_parts (test y) (list_any test ys) none).0
none_at test (y ∷ ys) (suc index) x none found = none_at test ys index x (or_parts (test y) (list_any test ys) none).1 found

-- the first element with the name of one is that one
first_named : {X : Type 0} (name : X → List ℕ) (xs : List X) (index : ℕ) (x : X) → Apart name xs → slice_get xs index ≡ Some x → position_or_len (has_name name (name x)) xs ≡ index
first_named name [] index x apart found = cc
first_named {X = X} name (y ∷ ys) zero x apart found =
    let same : y ≡ x = cc in
    let P : X → Type 0 = λ z. bytes_eq (name y) (name z) ≡ true in
    let here : bytes_eq (name y) (name x) ≡ true = subst P same (same_bytes (name y)) in
    rw here refl
first_named name (y ∷ ys) (suc index) x apart found =
    let others : bytes_eq (name x) (name y) ≡ false = none_at (has_name name (name y)) ys index x apart.0 found in
    let here : bytes_eq (name y) (name x) ≡ false = bytes-swap (name x) (name y) others in
    let later = first_named name ys index x apart.1 found in
    rw here (omega (arith, later))

-- so its place is found by its name
pub place_found : {X : Type 0} (name : X → List ℕ) (xs : List X) (index : ℕ) (x : X) → Apart name xs → slice_get xs index ≡ Some x → index < 2 ^ 16 → at_most 65535 (position (has_name name (name x)) xs) ≡ Some index
place_found name xs index x apart found small =
    let first = first_named name xs index x apart found in
    let within : ltb index (length xs) ≡ true = grind (arith, nat_tests, slice_get_within xs index x found) in
    let few : leb index 65535 ≡ true = grind (arith, nat_tests) in
    rw (first, within, few) refl

-- the element at a place of the list
pub record ElementAt {X : Type 0} (xs : List X) (index : ℕ) : Type 0 where
  pub element : X
  pub found : slice_get xs index ≡ Some element

-- there is one at each place within the list
pub element_at : {X : Type 0} (xs : List X) (index : ℕ) → index < length xs → ElementAt xs index
element_at xs index within =
    elim ((slice_get_cases xs index).1) [
      | inl there ↦ record { element = there.0; found = there.2 }
      | inr past ↦ absurd (omega (arith, past.0))
    ]
