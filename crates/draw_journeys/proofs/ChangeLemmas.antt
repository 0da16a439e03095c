-- The first of a list that passes is changed: what a filter keeps of it then, and in which order.
use Rattle.std.proofs.Common.{◌≡◌, ℕ, ◌+◌, Bool, true, false, ◌&&◌, cond, List, [], ◌∷◌, ◌++◌, length, map, Option, Some, None, refl, sym, ap, ◌∙◌, append_assoc, append-nil, slice_get}
use Rattle.std.specs.List.{filter, find, position_from, AllByRecursion}
use Rattle.std.proofs.Math.ListN.{set}
use Rattle.std.proofs.lemmas.List.{map-append, length_push}
use Rattle.list_facts.specs.Lists.{less, changed_at, changed_with}

-- the first that passes is changed
abbrev pub change_first : {X : Type 0} → (X → Bool) → (X → X) → List X → List X
change_first test f [] = []
change_first test f (x ∷ xs) = cond (test x) (f x ∷ xs) (x ∷ change_first test f xs)

-- what a filter keeps, seen by a word
abbrev pub kept : {X Y : Type 0} → (X → Y) → (X → Bool) → List X → List Y
kept c q xs = map c (filter q xs)

-- By its place.

at_end : {X : Type 0} (pre : List X) (x : X) (xs : List X) → slice_get (pre ++ x ∷ xs) (length pre) ≡ Some x
at_end [] x xs = refl
at_end (y ∷ pre) x xs = at_end pre x xs

set_end : {X : Type 0} (pre : List X) (x y : X) (xs : List X) → set (pre ++ x ∷ xs) (length pre) y ≡ pre ++ y ∷ xs
set_end [] x y xs = refl
set_end {X} (z ∷ pre) x y xs = ap (λ (l : List X). z ∷ l) (set_end pre x y xs)

changed_from : {X : Type 0} (test : X → Bool) (f : X → X) (pre xs : List X) → changed_at f (pre ++ xs) (position_from test (length pre) xs) ≡ pre ++ change_first test f xs
changed_from test f pre [] = refl
changed_from {X} test f pre (x ∷ xs) =
    let P : Bool → Type 0 = λ b. changed_at f (pre ++ x ∷ xs) (cond b (Some (length pre)) (position_from test (length pre + 1) xs)) ≡ pre ++ cond b (f x ∷ xs) (x ∷ change_first test f xs) in
    elim (test x) as P [
      | true ↦ ap (λ (o : Option X). changed_with f (pre ++ x ∷ xs) (length pre) o) (at_end pre x xs) ∙ set_end pre x (f x) xs
      | false ↦
          ap (λ (n : ℕ). changed_at f (pre ++ x ∷ xs) (position_from test n xs)) (sym (length_push pre x))
          ∙ ap (λ (l : List X). changed_at f l (position_from test (length (pre ++ x ∷ [])) xs)) (sym (append_assoc pre (x ∷ []) xs))
          ∙ changed_from test f (pre ++ x ∷ []) xs ∙ append_assoc pre (x ∷ []) (change_first test f xs)
    ]

-- what is at its place is changed
pub changed_first : {X : Type 0} (test : X → Bool) (f : X → X) (xs : List X) → changed_at f xs (position_from test 0 xs) ≡ change_first test f xs
changed_first test f xs = changed_from test f [] xs

-- What a filter keeps.

pub filter-append : {X : Type 0} (q : X → Bool) (xs ys : List X) → filter q (xs ++ ys) ≡ filter q xs ++ filter q ys
filter-append q [] ys = refl
filter-append {X} q (x ∷ xs) ys =
    let more : List X → List X = λ l. x ∷ l in
    let P : Bool → Type 0 = λ b. cond b (x ∷ filter q (xs ++ ys)) (filter q (xs ++ ys)) ≡ cond b (x ∷ filter q xs) (filter q xs) ++ filter q ys in
    elim (q x) as P [ true ↦ ap more (filter-append q xs ys) | false ↦ filter-append q xs ys ]

pub kept-append : {X Y : Type 0} (c : X → Y) (q : X → Bool) (xs ys : List X) → kept c q (xs ++ ys) ≡ kept c q xs ++ kept c q ys
kept-append {X} c q xs ys = ap (λ (l : List X). map c l) (filter-append q xs ys) ∙ map-append c (filter q xs) (filter q ys)

-- of none that passes nothing is kept
pub kept-none : {X Y : Type 0} (c : X → Y) (q : X → Bool) (xs : List X) → AllByRecursion (λ x. q x ≡ false) xs → kept c q xs ≡ []
kept-none c q [] none = refl
kept-none {X} c q (x ∷ xs) none = ap (λ (b : Bool). map c (cond b (x ∷ filter q xs) (filter q xs))) none.0 ∙ kept-none c q xs none.1

pub kept-append_none : {X Y : Type 0} (c : X → Y) (q : X → Bool) (xs ys : List X) → AllByRecursion (λ x. q x ≡ false) ys → kept c q (xs ++ ys) ≡ kept c q xs
kept-append_none {Y = Y} c q xs ys none = kept-append c q xs ys ∙ ap (λ (l : List Y). kept c q xs ++ l) (kept-none c q ys none) ∙ append-nil (kept c q xs)

-- the same is kept of a change that the filter and the word do not tell
pub kept-change_same : {X Y : Type 0} (c : X → Y) (q test : X → Bool) (f : X → X) → ((x : X) → test x ≡ true → (q (f x) ≡ q x) × (c (f x) ≡ c x)) → (xs : List X) → kept c q (change_first test f xs) ≡ kept c q xs
kept-change_same c q test f same [] = refl
kept-change_same {X} {Y} c q test f same (x ∷ xs) =
    let later = kept-change_same c q test f same xs in
    let P : Bool → Type 0 = λ b. test x ≡ b → kept c q (cond b (f x ∷ xs) (x ∷ change_first test f xs)) ≡ kept c q (x ∷ xs) in
    let Q : Bool → Type 0 = λ b. map c (cond b (x ∷ filter q (change_first test f xs)) (filter q (change_first test f xs))) ≡ map c (cond b (x ∷ filter q xs) (filter q xs)) in
    (elim (test x) as P [
      | true ↦ λ is.
          let R : Bool → Type 0 = λ b. map c (cond b (f x ∷ filter q xs) (filter q xs)) ≡ map c (cond b (x ∷ filter q xs) (filter q xs)) in
          ap (λ (b : Bool). map c (cond b (f x ∷ filter q xs) (filter q xs))) (same x is).0
          ∙ (elim (q x) as R [ true ↦ ap (λ (y : Y). y ∷ map c (filter q xs)) (same x is).1 | false ↦ refl ])
      | false ↦ λ _. elim (q x) as Q [ true ↦ ap (λ (l : List Y). c x ∷ l) later | false ↦ later ]
    ]) refl

-- of those that are kept the first that passes is taken out
abbrev pub both : {X Y : Type 0} → (X → Y) → (X → Bool) → (Y → Bool) → X → Bool
both c q p x = q x && p (c x)

pub kept-change_less : {X Y : Type 0} (c : X → Y) (q : X → Bool) (p : Y → Bool) (f : X → X) → ((x : X) → q (f x) ≡ false) → (xs : List X) → kept c q (change_first (both c q p) f xs) ≡ less p (kept c q xs)
kept-change_less c q p f gone [] = refl
kept-change_less {X} {Y} c q p f gone (x ∷ xs) =
    let new : List X = change_first (both c q p) f xs in
    let later : kept c q new ≡ less p (kept c q xs) = kept-change_less c q p f gone xs in
    let P : Bool → Type 0 = λ b. q x ≡ b → kept c q (cond (b && p (c x)) (f x ∷ xs) (x ∷ new)) ≡ less p (map c (cond b (x ∷ filter q xs) (filter q xs))) in
    (elim (q x) as P [
      | true ↦ λ is.
          let Q : Bool → Type 0 = λ b. kept c q (cond b (f x ∷ xs) (x ∷ new)) ≡ cond b (kept c q xs) (c x ∷ less p (kept c q xs)) in
          elim (p (c x)) as Q [
            | true ↦ ap (λ (b : Bool). map c (cond b (f x ∷ filter q xs) (filter q xs))) (gone x)
            | false ↦ ap (λ (b : Bool). map c (cond b (x ∷ filter q new) (filter q new))) is ∙ ap (λ (l : List Y). c x ∷ l) later
          ]
      | false ↦ λ is. ap (λ (b : Bool). map c (cond b (x ∷ filter q new) (filter q new))) is ∙ later
    ]) refl

-- where none is found nothing is kept
pub first-none : {X Y : Type 0} (c : X → Y) (q : X → Bool) (xs : List X) → find q xs ≡ None → kept c q xs ≡ []
first-none c q [] none = refl
first-none {X} c q (x ∷ xs) none =
    let P : Bool → Type 0 = λ b. cond b (Some x) (find q xs) ≡ None → map c (cond b (x ∷ filter q xs) (filter q xs)) ≡ [] in
    (elim (q x) as P [ true ↦ λ some. cc | false ↦ λ rest. first-none c q xs rest ]) none

-- where one is found it is the first that is kept, and it is taken out
pub first-some : {X Y : Type 0} (c : X → Y) (q : X → Bool) (f : X → X) → ((x : X) → q (f x) ≡ false) → (xs : List X) (y : X) → find q xs ≡ Some y → kept c q xs ≡ c y ∷ kept c q (change_first q f xs)
first-some c q f gone [] y some = cc
first-some {X} {Y} c q f gone (x ∷ xs) y some =
    let new : List X = change_first q f xs in
    let P : Bool → Type 0 = λ b. q x ≡ b → cond b (Some x) (find q xs) ≡ Some y → map c (cond b (x ∷ filter q xs) (filter q xs)) ≡ c y ∷ kept c q (cond b (f x ∷ xs) (x ∷ new)) in
    (elim (q x) as P [
      | true ↦ λ _ is.
          let same : x ≡ y = cc in
          let none : filter q (f x ∷ xs) ≡ filter q xs = ap (λ (b : Bool). cond b (f x ∷ filter q xs) (filter q xs)) (gone x) in
          ap (λ (z : X). c z ∷ map c (filter q xs)) same ∙ ap (λ (l : List X). c y ∷ map c l) (sym none)
      | false ↦ λ fails rest.
          let none : filter q (x ∷ new) ≡ filter q new = ap (λ (b : Bool). cond b (x ∷ filter q new) (filter q new)) fails in
          first-some c q f gone xs y rest ∙ ap (λ (l : List X). c y ∷ map c l) (sym none)
    ]) refl some
