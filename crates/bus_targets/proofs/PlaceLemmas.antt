-- Places of addresses that rise, and what changes at one place of a list.
use Rattle.std.proofs.Common.{◌≡◌, ◌≢◌, ℕ, zero, suc, Bool, true, false, ◌+◌, ◌<◌, ◌≤◌, ◌==◌, length, get_or, List, [], ◌∷◌, Option, None, Some, Ok, Err, refl, sym, ap, subst, ◌∙◌, arith, cond}
use Rattle.std.specs.Prelude.{slice_get, is_some}
use Rattle.std.specs.Ordering.{nat_cmp}
use Rattle.std.specs.List.{position_from, Contains}
use Rattle.std.specs.List.Sorted.{IsStrictlyIncreasing, IsBinarySearchResult}
use Rattle.std.proofs.Math.ListN.{set}
use Rattle.std.proofs.lemmas.Bool.Decides.{nat_tests}
use Rattle.std.proofs.lemmas.Option.{slice_get_within, get_or_from_slice_get}
use Rattle.std.proofs.lemmas.List.Sorted.{searched}
use Rattle.std.proofs.lemmas.List.Kept.{AllPairs-from_increasing}
use Rattle.list_facts.specs.Lists.{changed_at, changed_with}
use Rattle.bus_targets.specs.Words.{place_in}

abbrev is : ℕ → ℕ → Bool
is address kept = kept == address

-- what is found is the address, at its place
pub record FoundAt (xs : List ℕ) (address start at : ℕ) : Type 0 where
  pub index : ℕ
  pub at_is : at ≡ start + index
  pub there : slice_get xs index ≡ Some address

found_from : (xs : List ℕ) (address start at : ℕ) → position_from (is address) start xs ≡ Some at → FoundAt xs address start at
found_from [] address start at some = cc
found_from (x ∷ xs) address start at some =
    let P : Bool → Type 0 = λ b. (x == address) ≡ b → cond b (Some start) (position_from (is address) (start + 1) xs) ≡ Some at → FoundAt (x ∷ xs) address start at in
    (elim (x == address) as P [
      | true ↦ λ same e.
          let here : start ≡ at = cc in
          let one : x ≡ address = grind (arith, nat_tests, same) in
          record { index = 0; at_is = omega (arith, here); there = ap (λ (n : ℕ). Some n) one }
      | false ↦ λ differs e.
          let later = found_from xs address (start + 1) at e in
          let where_it_is : at ≡ start + 1 + later.index = later.at_is in
          record { index = suc later.index; at_is = omega (arith, where_it_is); there = later.there }
    ]) refl some

pub found_place : (xs : List ℕ) (address place : ℕ) → place_in xs address ≡ Some place → slice_get xs place ≡ Some address
found_place xs address place some =
    let found = found_from xs address 0 place some in
    let at : place ≡ found.index = omega (arith, found.at_is) in
    subst (λ (n : ℕ). slice_get xs n ≡ Some address) (sym at) found.there

-- a place before which the address is not
position_at : (xs : List ℕ) (address i start : ℕ) → i < length xs → get_or xs i 0 ≡ address → ((k : ℕ) → k < i → get_or xs k 0 ≢ address) → position_from (is address) start xs ≡ Some (start + i)
position_at [] address i start within there earlier = absurd (omega (arith, within))
position_at (x ∷ xs) address zero start within there earlier =
    let same : (x == address) ≡ true = grind (arith, nat_tests, there) in
    rw same (ap (λ (n : ℕ). Some n) (omega arith))
position_at (x ∷ xs) address (suc i) start within there earlier =
    let differs : x ≢ address = earlier 0 (omega arith) in
    let fails : (x == address) ≡ false = grind (arith, nat_tests, differs) in
    let later = position_at xs address i (start + 1) (omega (arith, within)) there (λ k below. earlier (suc k) (omega (arith, below))) in
    rw fails (later ∙ ap (λ (n : ℕ). Some n) (omega arith))

position_none : (xs : List ℕ) (address start : ℕ) → ((k : ℕ) → k < length xs → get_or xs k 0 ≢ address) → position_from (is address) start xs ≡ None
position_none [] address start none = refl
position_none (x ∷ xs) address start none =
    let differs : x ≢ address = none 0 (omega arith) in
    let fails : (x == address) ≡ false = grind (arith, nat_tests, differs) in
    rw fails (position_none xs address (start + 1) (λ k within. none (suc k) (omega (arith, within))))

pub no_place : (xs : List ℕ) (address : ℕ) → ((k : ℕ) → k < length xs → get_or xs k 0 ≢ address) → None ≡ place_in xs address
no_place xs address none = sym (position_none xs address 0 none)

-- addresses that rise are each at one place
rises_at : (xs : List ℕ) (i : ℕ) → IsStrictlyIncreasing xs → i < length xs → (k : ℕ) → k < i → get_or xs k 0 ≢ get_or xs i 0
rises_at xs i rises within k below same =
    let less : get_or xs k 0 < get_or xs i 0 = AllPairs-from_increasing xs rises k i 0 below within in
    omega (arith, less, same)

pub place_at : (xs : List ℕ) (address place : ℕ) → IsStrictlyIncreasing xs → slice_get xs place ≡ Some address → place_in xs address ≡ Some place
place_at xs address place rises at =
    let within : place < length xs = slice_get_within xs place address at in
    let there : get_or xs place 0 ≡ address = get_or_from_slice_get xs place address 0 at in
    let number : 0 + place ≡ place = omega arith in
    position_at xs address place 0 within there (λ k below same. rises_at xs place rises within k below (same ∙ sym there)) ∙ ap (λ (n : ℕ). Some n) number

rises_or_same : (xs : List ℕ) → IsStrictlyIncreasing xs → (i j : ℕ) → i ≤ j → j < length xs → get_or xs i 0 ≤ get_or xs j 0
rises_or_same xs rises i j le within =
    let P : Bool → Type 0 = λ b. (i == j) ≡ b → get_or xs i 0 ≤ get_or xs j 0 in
    (elim (i == j) as P [
      | true ↦ λ same. let one : i ≡ j = grind (arith, nat_tests, same) in rw one (omega arith)
      | false ↦ λ differs.
          let apart : i ≢ j = λ one. (let same : (i == j) ≡ true = grind (arith, nat_tests, one) in absurd (cc)) in
          let less : get_or xs i 0 < get_or xs j 0 = AllPairs-from_increasing xs rises i j 0 (omega (arith, le, apart)) within in
          omega (arith, less)
    ]) refl

-- what a search among them finds
pub searched_place : (xs : List ℕ) (address place : ℕ) → IsStrictlyIncreasing xs → IsBinarySearchResult (λ (y : ℕ). nat_cmp y address) xs (Ok place) → Some place ≡ place_in xs address
searched_place xs address place rises result =
    let found = searched xs address (Ok place) result (rises_or_same xs rises) in
    let first : position_from (is address) 0 xs ≡ Some (0 + place) = position_at xs address place 0 found.0 found.1 (λ k below same. rises_at xs place rises found.0 k below (same ∙ sym found.1)) in
    let number : 0 + place ≡ place = omega arith in
    sym (first ∙ ap (λ (n : ℕ). Some n) number)

pub searched_none : (xs : List ℕ) (address place : ℕ) → IsStrictlyIncreasing xs → IsBinarySearchResult (λ (y : ℕ). nat_cmp y address) xs (Err place) → None ≡ place_in xs address
searched_none xs address place rises result = no_place xs address differs where
  differs : (k : ℕ) → k < length xs → get_or xs k 0 ≢ address
  differs k within same =
      let found = searched xs address (Err place) result (rises_or_same xs rises) in
      grind (arith, found.1 k, found.2 k, within, same)

-- an address that is among them has a place
pub has_place : (xs : List ℕ) (address : ℕ) → Contains xs address → is_some (place_in xs address) ≡ true
has_place xs address there = from xs 0 there.0 there.1 (contained xs there.0 there.1 there.2) where
  contained : (ys : List ℕ) (k : ℕ) → k < length ys → get_or ys k address ≡ address → get_or ys k 0 ≡ address
  contained [] k within same = absurd (omega (arith, within))
  contained (y ∷ ys) zero within same = same
  contained (y ∷ ys) (suc k) within same = contained ys k (omega (arith, within)) same

  from : (ys : List ℕ) (start k : ℕ) → k < length ys → get_or ys k 0 ≡ address → is_some (position_from (is address) start ys) ≡ true
  from [] start k within same = absurd (omega (arith, within))
  from (y ∷ ys) start zero within same = let here : (y == address) ≡ true = grind (arith, nat_tests, same) in rw here refl
  from (y ∷ ys) start (suc k) within same =
      let later : is_some (position_from (is address) (start + 1) ys) ≡ true = from ys (start + 1) k (omega (arith, within)) same in
      let P : Bool → Type 0 = λ b. is_some (cond b (Some start) (position_from (is address) (start + 1) ys)) ≡ true in
      elim (y == address) as P [ true ↦ refl | false ↦ later ]

-- a change at a place, and elsewhere
set_same : {X : Type 0} (xs : List X) (i : ℕ) (x : X) → i < length xs → slice_get (set xs i x) i ≡ Some x
set_same [] i x within = absurd (omega (arith, within))
set_same (y ∷ ys) zero x within = refl
set_same (y ∷ ys) (suc i) x within = set_same ys i x (omega (arith, within))

set_other : {X : Type 0} (xs : List X) (i j : ℕ) (x : X) → j ≢ i → slice_get (set xs i x) j ≡ slice_get xs j
set_other [] i j x apart = refl
set_other (y ∷ ys) zero zero x apart = absurd (apart refl)
set_other (y ∷ ys) zero (suc j) x apart = refl
set_other (y ∷ ys) (suc i) zero x apart = refl
set_other (y ∷ ys) (suc i) (suc j) x apart = set_other ys i j x (λ e. apart (ap suc e))

pub changed_same : {X : Type 0} (f : X → X) (xs : List X) (place : ℕ) (x : X) → slice_get xs place ≡ Some x → slice_get (changed_at f xs (Some place)) place ≡ Some (f x)
changed_same f xs place x at = rw at (set_same xs place (f x) (slice_get_within xs place x at))

pub changed_other : {X : Type 0} (f : X → X) (xs : List X) (place other : ℕ) → other ≢ place → slice_get (changed_at f xs (Some place)) other ≡ slice_get xs other
changed_other {X = X} f xs place other apart =
    let P : Option X → Type 0 = λ x. slice_get (changed_with f xs place x) other ≡ slice_get xs other in
    elim (slice_get xs place) as P [ None ↦ refl | Some x ↦ set_other xs place other (f x) apart ]
