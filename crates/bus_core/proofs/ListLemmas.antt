-- Lists of which one element changed, and what is found at a place.
use Rattle.std.proofs.Common.{◌≡◌, ◌≢◌, ℕ, zero, suc, ◌+◌, Bool, true, false, cond, ◌==◌, List, [], ◌∷◌, map, Option, Some, None, IfSome, refl, sym, ap, subst, ◌∙◌, arith, slice_get}
use Rattle.std.specs.List.{position, position_from}
use Rattle.std.specs.Option.{option_map, IfNone}
use Rattle.std.proofs.lemmas.Bool.{eqb-true, eqb-false}
use Rattle.std.proofs.lemmas.Option.{slice_get-map}
use Rattle.std.proofs.lemmas.Iterator.Adapters.{position_from-zero}
use Rattle.bus_core.specs.Places.{OneChanged}

-- lists with the same at each place are the same
pub lists_same : {X : Type 0} (xs ys : List X) → ((n : ℕ) → slice_get xs n ≡ slice_get ys n) → xs ≡ ys
lists_same [] [] same = refl
lists_same [] (y ∷ ys) same = let wrong = same 0 in cc
lists_same (x ∷ xs) [] same = let wrong = same 0 in cc
lists_same {X} (x ∷ xs) (y ∷ ys) same =
    let first : Some x ≡ Some y = same 0 in
    let head : x ≡ y = cc in
    let F : X → List X → List X = λ a l. a ∷ l in
    ap (λ a. F a xs) head ∙ ap (F y) (lists_same xs ys (λ n. same (suc n)))

-- a property of all that the change keeps is kept
pub one_map : {X Y : Type 0} (f : X → Y) (place : ℕ) (old new : List X) (before after : X) → OneChanged place old new before after → f after ≡ f before → map f new ≡ map f old
one_map {X} f place old new before after one same =
    lists_same (map f new) (map f old) (λ n.
    let P : Bool → Type 0 = λ b. (n == place) ≡ b → option_map f (slice_get new n) ≡ option_map f (slice_get old n) in
    let kept : option_map f (slice_get new n) ≡ option_map f (slice_get old n) = (elim (n == place) as P [
      | true ↦ λ is.
          let here : n ≡ place = eqb-true n place is in
          let now : slice_get new n ≡ Some after = ap (slice_get new) here ∙ one.is in
          let then : slice_get old n ≡ Some before = ap (slice_get old) here ∙ one.was in
          ap (option_map f) now ∙ (ap Some same ∙ sym (ap (option_map f) then))
      | false ↦ λ apart. ap (option_map f) (one.others n (eqb-false n place apart))
    ]) refl in
    slice_get-map f new n ∙ (kept ∙ sym (slice_get-map f old n)))

-- a change of one element, seen through a map
pub one_mapped : {X Y : Type 0} (f : X → Y) (place : ℕ) (old new : List X) (before after : X) → OneChanged place old new before after → OneChanged place (map f old) (map f new) (f before) (f after)
one_mapped f place old new before after one =
    record {
      was = slice_get-map f old place ∙ ap (option_map f) one.was;
      is = slice_get-map f new place ∙ ap (option_map f) one.is;
      others = λ n apart. slice_get-map f new n ∙ (ap (option_map f) (one.others n apart) ∙ sym (slice_get-map f old n));
    }

-- what did not change is as before
pub one_same : {X : Type 0} (place : ℕ) (old new : List X) (before after : X) → OneChanged place old new before after → after ≡ before → new ≡ old
one_same {X} place old new before after one same =
    lists_same new old (λ n.
    let P : Bool → Type 0 = λ b. (n == place) ≡ b → slice_get new n ≡ slice_get old n in
    (elim (n == place) as P [
      | true ↦ λ is.
          let here : n ≡ place = eqb-true n place is in
          let now : slice_get new n ≡ Some after = ap (slice_get new) here ∙ one.is in
          let then : slice_get old n ≡ Some before = ap (slice_get old) here ∙ one.was in
          now ∙ (ap Some same ∙ sym then)
      | false ↦ λ apart. one.others n (eqb-false n place apart)
    ]) refl)

-- of each element after the change: it is the changed one, or was there before
pub one_each : {X : Type 0} (P : ℕ → X → Type 0) (place : ℕ) (old new : List X) (before after : X) → OneChanged place old new before after → P place after
    → ((n : ℕ) (x : X) → n ≢ place → slice_get old n ≡ Some x → P n x) → (n : ℕ) (x : X) → slice_get new n ≡ Some x → P n x
one_each {X} P place old new before after one here others n x there =
    let Q : Bool → Type 0 = λ b. (n == place) ≡ b → P n x in
    (elim (n == place) as Q [
      | true ↦ λ is.
          let same : n ≡ place = eqb-true n place is in
          let at : slice_get new place ≡ Some x = subst (λ m. slice_get new m ≡ Some x) same there in
          let both = sym one.is ∙ at in
          let one_x : after ≡ x = cc in
          subst (λ m. P m x) (sym same) (subst (P place) one_x here)
      | false ↦ λ apart. others n x (eqb-false n place apart) (sym (one.others n (eqb-false n place apart)) ∙ there)
    ]) refl

-- an element of a mapped list
pub get_map : {X Y : Type 0} (f : X → Y) (xs : List X) (n : ℕ) (x : X) → slice_get xs n ≡ Some x → slice_get (map f xs) n ≡ Some (f x)
get_map f xs n x is = slice_get-map f xs n ∙ ap (option_map f) is

-- and back: where the mapped list has an element, it is of one
pub map_get : {X Y : Type 0} (f : X → Y) (xs : List X) (n : ℕ) (y : Y) → slice_get (map f xs) n ≡ Some y → (x : X) × ((slice_get xs n ≡ Some x) × (f x ≡ y))
map_get {X} {Y} f xs n y is =
    let P : Option X → Type 0 = λ found. slice_get xs n ≡ found → option_map f found ≡ Some y → (x : X) × ((slice_get xs n ≡ Some x) × (f x ≡ y)) in
    (elim (slice_get xs n) as P [
      | None ↦ λ _ e. cc
      | Some x ↦ λ at e. (x, (at, let same : Some (f x) ≡ Some y = e in cc))
    ]) refl (sym (slice_get-map f xs n) ∙ is)

-- what is found passes
found_from : {X : Type 0} (p : X → Bool) (i : ℕ) (xs : List X) (k : ℕ) → position_from p i xs ≡ Some k → (n : ℕ) × ((k ≡ i + n) × ((x : X) × ((slice_get xs n ≡ Some x) × (p x ≡ true))))
found_from p i [] k is = cc
found_from {X} p i (x ∷ xs) k is =
    let P : Bool → Type 0 = λ b. p x ≡ b → cond b (Some i) (position_from p (i + 1) xs) ≡ Some k → (n : ℕ) × ((k ≡ i + n) × ((y : X) × ((slice_get (x ∷ xs) n ≡ Some y) × (p y ≡ true)))) in
    (elim (p x) as P [
      | true ↦ λ passes e. let same : i ≡ k = cc in (0, (omega arith, (x, (refl, passes))))
      | false ↦ λ _ e.
          let later = found_from p (i + 1) xs k e in
          (suc later.0, (omega (arith, later.1.0), later.1.1))
    ]) refl is

pub found_at : {X : Type 0} (p : X → Bool) (xs : List X) (k : ℕ) → position p xs ≡ Some k → (x : X) × ((slice_get xs k ≡ Some x) × (p x ≡ true))
found_at {X} p xs k is =
    let found = found_from p 0 xs k (sym (position_from-zero p xs) ∙ is) in
    let same : found.0 ≡ k = omega (arith, found.1.0) in
    subst (λ n. (x : X) × ((slice_get xs n ≡ Some x) × (p x ≡ true))) same found.1.1

-- and where nothing is found, none passes
none_from : {X : Type 0} (p : X → Bool) (i : ℕ) (xs : List X) → position_from p i xs ≡ None → (n : ℕ) (x : X) → slice_get xs n ≡ Some x → p x ≡ false
none_from p i [] is n x there = cc
none_from {X} p i (y ∷ ys) is zero x there =
    let same : y ≡ x = cc in
    let P : Bool → Type 0 = λ b. cond b (Some i) (position_from p (i + 1) ys) ≡ None → b ≡ false in
    subst (λ z. p z ≡ false) same ((elim (p y) as P [ true ↦ λ e. cc | false ↦ λ _. refl ]) is)
none_from {X} p i (y ∷ ys) is (suc n) x there =
    let P : Bool → Type 0 = λ b. cond b (Some i) (position_from p (i + 1) ys) ≡ None → position_from p (i + 1) ys ≡ None in
    none_from p (i + 1) ys ((elim (p y) as P [ true ↦ λ e. cc | false ↦ λ e. e ]) is) n x there

pub none_at : {X : Type 0} (p : X → Bool) (xs : List X) → position p xs ≡ None → (n : ℕ) (x : X) → slice_get xs n ≡ Some x → p x ≡ false
none_at p xs is n x there = none_from p 0 xs (sym (position_from-zero p xs) ∙ is) n x there

-- what follows of a value follows where there is one, and what holds of none
pub if_some : {X : Type 0} (P Q : X → Type 0) → ((x : X) → P x → Q x) → (found : Option X) → IfSome found P → IfSome found Q
if_some P Q follows None some = tt
if_some P Q follows (Some x) some = follows x some

pub if_none : {X : Type 0} (P Q : Type 0) → (P → Q) → (found : Option X) → IfNone found P → IfNone found Q
if_none P Q follows None none = follows none
if_none P Q follows (Some x) none = tt
