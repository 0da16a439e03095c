-- In a list, behind one that passes a first test, none passes a second: so what changes from the first to the second is
-- the last that passes it.
use Rattle.std.proofs.Common.{◌≡◌, Bool, true, false, cond, List, [], ◌∷◌, ◌++◌, map, Some, refl, sym, ap, ◌∙◌}
use Rattle.std.specs.List.{filter, find, AllByRecursion}
use Rattle.draw_journeys.proofs.ChangeLemmas.{change_first, kept, filter-append}

abbrev pub InOrder : {X : Type 0} → (X → Bool) → (X → Bool) → List X → Type 0
InOrder q s [] = Unit {0}
InOrder q s (x ∷ xs) = (q x ≡ true → filter s xs ≡ []) × InOrder q s xs

-- more come behind, of which none passes the second test
pub order-append : {X : Type 0} (q s : X → Bool) (xs ys : List X) → InOrder q s xs → InOrder q s ys → filter s ys ≡ [] → InOrder q s (xs ++ ys)
order-append q s [] ys order more none = more
order-append {X} q s (x ∷ xs) ys order more none =
    (λ is. filter-append s xs ys ∙ ap (λ (l : List X). l ++ filter s ys) (order.0 is) ∙ none, order-append q s xs ys order.1 more none)

-- where none passes the second test all are in order
pub order-none : {X : Type 0} (q s : X → Bool) (xs : List X) → AllByRecursion (λ x. s x ≡ false) xs → (InOrder q s xs) × (filter s xs ≡ [])
order-none q s [] none = (tt, refl)
order-none {X} q s (x ∷ xs) none =
    let later = order-none q s xs none.1 in
    ((λ _. later.1, later.0), ap (λ (b : Bool). cond b (x ∷ filter s xs) (filter s xs)) none.0 ∙ later.1)

filter-change_none : {X : Type 0} (s test : X → Bool) (f : X → X) → ((x : X) → test x ≡ true → s (f x) ≡ true → s x ≡ true) → (xs : List X) → filter s xs ≡ [] → filter s (change_first test f xs) ≡ []
filter-change_none s test f less [] none = refl
filter-change_none {X} s test f less (x ∷ xs) none =
    let new : List X = change_first test f xs in
    let P : Bool → Type 0 = λ b. s x ≡ b → cond b (x ∷ filter s xs) (filter s xs) ≡ [] → filter s (change_first test f (x ∷ xs)) ≡ [] in
    (elim (s x) as P [
      | true ↦ λ _ some. cc
      | false ↦ λ fails rest.
          let Q : Bool → Type 0 = λ b. test x ≡ b → filter s (cond b (f x ∷ xs) (x ∷ new)) ≡ [] in
          (elim (test x) as Q [
            | true ↦ λ is.
                let R : Bool → Type 0 = λ b. s (f x) ≡ b → cond b (f x ∷ filter s xs) (filter s xs) ≡ [] in
                (elim (s (f x)) as R [
                  | true ↦ λ passes. let wrong : s x ≡ true = less x is passes in cc
                  | false ↦ λ _. rest
                ]) refl
            | false ↦ λ _. ap (λ (b : Bool). cond b (x ∷ filter s new) (filter s new)) fails ∙ filter-change_none s test f less xs rest
          ]) refl
    ]) refl none

-- a change by which neither test is passed that was not passed
pub order-change : {X : Type 0} (q s test : X → Bool) (f : X → X) → ((x : X) → test x ≡ true → q (f x) ≡ true → q x ≡ true) → ((x : X) → test x ≡ true → s (f x) ≡ true → s x ≡ true)
    → (xs : List X) → InOrder q s xs → InOrder q s (change_first test f xs)
order-change q s test f first second [] order = tt
order-change {X} q s test f first second (x ∷ xs) order =
    let P : Bool → Type 0 = λ b. test x ≡ b → InOrder q s (cond b (f x ∷ xs) (x ∷ change_first test f xs)) in
    (elim (test x) as P [
      | true ↦ λ is. (λ passes. order.0 (first x is passes), order.1)
      | false ↦ λ _. (λ passes. filter-change_none s test f second xs (order.0 passes), order-change q s test f first second xs order.1)
    ]) refl

-- the first that passes the first test passes it no more
pub order-come : {X : Type 0} (q s : X → Bool) (f : X → X) → ((x : X) → q (f x) ≡ false) → (xs : List X) → InOrder q s xs → InOrder q s (change_first q f xs)
order-come q s f gone [] order = tt
order-come {X} q s f gone (x ∷ xs) order =
    let P : Bool → Type 0 = λ b. q x ≡ b → InOrder q s (cond b (f x ∷ xs) (x ∷ change_first q f xs)) in
    (elim (q x) as P [
      | true ↦ λ _. (λ passes. let wrong : q (f x) ≡ false = gone x in cc, order.1)
      | false ↦ λ fails. (λ passes. cc, order-come q s f gone xs order.1)
    ]) refl

-- and is the last that passes the second, where it does
pub kept-come : {X Y : Type 0} (c : X → Y) (q s : X → Bool) (f : X → X) → ((x : X) → q x ≡ true → s x ≡ false) → (xs : List X) → InOrder q s xs → (y : X) → find q xs ≡ Some y
    → kept c s (change_first q f xs) ≡ kept c s xs ++ cond (s (f y)) (c (f y) ∷ []) []
kept-come c q s f apart [] order y some = cc
kept-come {X} {Y} c q s f apart (x ∷ xs) order y some =
    let new : List X = change_first q f xs in
    let end : X → List Y = λ z. cond (s (f z)) (c (f z) ∷ []) [] in
    let P : Bool → Type 0 = λ b. q x ≡ b → cond b (Some x) (find q xs) ≡ Some y → kept c s (cond b (f x ∷ xs) (x ∷ new)) ≡ kept c s (x ∷ xs) ++ end y in
    (elim (q x) as P [
      | true ↦ λ is found.
          let same : x ≡ y = cc in
          let none : filter s xs ≡ [] = order.0 is in
          let R : Bool → Type 0 = λ b. map c (cond b (f x ∷ filter s xs) (filter s xs)) ≡ cond b (c (f x) ∷ []) [] in
          let left : kept c s (f x ∷ xs) ≡ end x = elim (s (f x)) as R [ true ↦ ap (λ (l : List X). c (f x) ∷ map c l) none | false ↦ ap (λ (l : List X). map c l) none ] in
          let old : kept c s (x ∷ xs) ≡ [] = ap (λ (b : Bool). map c (cond b (x ∷ filter s xs) (filter s xs))) (apart x is) ∙ ap (λ (l : List X). map c l) none in
          left ∙ ap end same ∙ sym (ap (λ (l : List Y). l ++ end y) old)
      | false ↦ λ _ rest.
          let later : kept c s new ≡ kept c s xs ++ end y = kept-come c q s f apart xs order.1 y rest in
          let Q : Bool → Type 0 = λ b. map c (cond b (x ∷ filter s new) (filter s new)) ≡ map c (cond b (x ∷ filter s xs) (filter s xs)) ++ end y in
          elim (s x) as Q [ true ↦ ap (λ (l : List Y). c x ∷ l) later | false ↦ later ]
    ]) refl some

-- What holds of each.

-- two tests that agree on each keep the same
pub filter-agree : {X : Type 0} (P : X → Type 0) (a b : X → Bool) → ((x : X) → P x → a x ≡ b x) → (xs : List X) → AllByRecursion P xs → filter a xs ≡ filter b xs
filter-agree P a b alike [] each = refl
filter-agree {X} P a b alike (x ∷ xs) each =
    ap (λ (t : Bool). cond t (x ∷ filter a xs) (filter a xs)) (alike x each.0)
    ∙ ap (λ (l : List X). cond (b x) (x ∷ l) l) (filter-agree P a b alike xs each.1)

-- a change keeps it
pub Each-change : {X : Type 0} (P : X → Type 0) (test : X → Bool) (f : X → X) → ((x : X) → P x → P (f x)) → (xs : List X) → AllByRecursion P xs → AllByRecursion P (change_first test f xs)
Each-change P test f keeps [] each = tt
Each-change {X} P test f keeps (x ∷ xs) each =
    let Q : Bool → Type 0 = λ b. AllByRecursion P (cond b (f x ∷ xs) (x ∷ change_first test f xs)) in
    elim (test x) as Q [ true ↦ (keeps x each.0, each.1) | false ↦ (each.0, Each-change P test f keeps xs each.1) ]

-- it holds of all that a function makes
pub Each-map : {X Y : Type 0} (P : Y → Type 0) (g : X → Y) → ((x : X) → P (g x)) → (xs : List X) → AllByRecursion P (map g xs)
Each-map P g holds [] = tt
Each-map P g holds (x ∷ xs) = (holds x, Each-map P g holds xs)
