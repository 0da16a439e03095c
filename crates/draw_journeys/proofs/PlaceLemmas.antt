-- The places of those that pass: the first among them that passes a narrower test, and what a change makes of them.
use Rattle.std.proofs.Common.{◌≡◌, ℕ, ◌+◌, ◌<◌, zero, suc, Bool, true, false, not, cond, eqb, List, [], ◌∷◌, ◌++◌, length, Option, Some, refl, sym, ap, ◌∙◌, arith, append_assoc, slice_get}
use Rattle.std.specs.List.{filter, find, position_from}
use Rattle.std.proofs.Math.ListN.{set}
use Rattle.std.proofs.lemmas.Bool.Decides.{nat_tests}
use Rattle.std.proofs.lemmas.List.{length_push}
use Rattle.draw_journeys.specs.Kept.{places_from, passes}

pub at_end : {X : Type 0} (pre : List X) (x : X) (xs : List X) → slice_get (pre ++ x ∷ xs) (length pre) ≡ Some x
at_end [] x xs = refl
at_end (y ∷ pre) x xs = at_end pre x xs

find_from : {X : Type 0} (u test : X → Bool) → ((x : X) → test x ≡ true → u x ≡ true) → (pre xs : List X)
    → find (λ (k : ℕ). passes test (slice_get (pre ++ xs) k)) (places_from (length pre) u xs) ≡ position_from test (length pre) xs
find_from u test narrow pre [] = refl
find_from {X} u test narrow pre (x ∷ xs) =
    let whole : List X = pre ++ x ∷ xs in
    let look : ℕ → Bool = λ k. passes test (slice_get whole k) in
    let next : ℕ = length pre + 1 in
    let moved : (pre ++ x ∷ []) ++ xs ≡ whole = append_assoc pre (x ∷ []) xs in
    let later : find look (places_from next u xs) ≡ position_from test next xs =
    ap (λ (n : ℕ). find look (places_from n u xs)) (sym (length_push pre x))
    ∙ ap (λ (l : List X). find (λ (k : ℕ). passes test (slice_get l k)) (places_from (length (pre ++ x ∷ [])) u xs)) (sym moved)
    ∙ find_from u test narrow (pre ++ x ∷ []) xs ∙ ap (λ (n : ℕ). position_from test n xs) (length_push pre x) in
    let P : Bool → Type 0 = λ b. u x ≡ b → find look (cond b (length pre ∷ places_from next u xs) (places_from next u xs)) ≡ cond (test x) (Some (length pre)) (position_from test next xs) in
    (elim (u x) as P [
      | true ↦ λ _.
          ap (λ (o : Option X). cond (passes test o) (Some (length pre)) (find look (places_from next u xs))) (at_end pre x xs)
          ∙ ap (λ (o : Option ℕ). cond (test x) (Some (length pre)) o) later
      | false ↦ λ out.
          let Q : Bool → Type 0 = λ b. test x ≡ b → find look (places_from next u xs) ≡ cond b (Some (length pre)) (position_from test next xs) in
          (elim (test x) as Q [ true ↦ λ is. let wrong : u x ≡ true = narrow x is in cc | false ↦ λ _. later ]) refl
    ]) refl

-- the first that passes is found among the places of those that pass a wider test
pub find_places : {X : Type 0} (u test : X → Bool) → ((x : X) → test x ≡ true → u x ≡ true) → (xs : List X) → find (λ (k : ℕ). passes test (slice_get xs k)) (places_from 0 u xs) ≡ position_from test 0 xs
find_places u test narrow xs = find_from u test narrow [] xs

-- one more that passes
pub places_push : {X : Type 0} (n : ℕ) (u : X → Bool) (xs : List X) (y : X) → u y ≡ true → places_from n u (xs ++ y ∷ []) ≡ places_from n u xs ++ (n + length xs) ∷ []
places_push n u [] y is =
    ap (λ (b : Bool). cond b (n ∷ []) []) is ∙ ap (λ (k : ℕ). k ∷ []) (omega arith)
places_push n u (x ∷ xs) y is =
    let e : (n + 1) + length xs ≡ n + suc (length xs) = omega arith in
    let later = places_push (n + 1) u xs y is ∙ ap (λ (k : ℕ). places_from (n + 1) u xs ++ k ∷ []) e in
    let P : Bool → Type 0 = λ b. cond b (n ∷ places_from (n + 1) u (xs ++ y ∷ [])) (places_from (n + 1) u (xs ++ y ∷ []))
    ≡ cond b (n ∷ places_from (n + 1) u xs) (places_from (n + 1) u xs) ++ (n + suc (length xs)) ∷ [] in
    elim (u x) as P [ true ↦ ap (λ (l : List ℕ). n ∷ l) later | false ↦ later ]

-- one that passed is replaced by one that passes
pub places_same : {X : Type 0} (n : ℕ) (u : X → Bool) (xs : List X) (k : ℕ) (y : X) → passes u (slice_get xs k) ≡ true → u y ≡ true → places_from n u (set xs k y) ≡ places_from n u xs
places_same n u [] k y was is = refl
places_same n u (x ∷ xs) zero y was is =
    ap (λ (b : Bool). cond b (n ∷ places_from (n + 1) u xs) (places_from (n + 1) u xs)) (is ∙ sym was)
places_same n u (x ∷ xs) (suc k) y was is =
    ap (λ (l : List ℕ). cond (u x) (n ∷ l) l) (places_same (n + 1) u xs k y was is)

apart : {X : Type 0} (j n : ℕ) (u : X → Bool) (xs : List X) → j < n → filter (λ (o : ℕ). not (eqb o j)) (places_from n u xs) ≡ places_from n u xs
apart j n u [] below = refl
apart j n u (x ∷ xs) below =
    let later = apart j (n + 1) u xs (omega (arith, below)) in
    let other : eqb n j ≡ false = grind (arith, nat_tests) in
    let P : Bool → Type 0 = λ b. filter (λ (o : ℕ). not (eqb o j)) (cond b (n ∷ places_from (n + 1) u xs) (places_from (n + 1) u xs)) ≡ cond b (n ∷ places_from (n + 1) u xs) (places_from (n + 1) u xs) in
    elim (u x) as P [
      | true ↦ ap (λ (b : Bool). cond (not b) (n ∷ filter (λ (o : ℕ). not (eqb o j)) (places_from (n + 1) u xs)) (filter (λ (o : ℕ). not (eqb o j)) (places_from (n + 1) u xs))) other ∙ ap (λ (l : List ℕ). n ∷ l) later
      | false ↦ later
    ]

-- by one that does not
pub places_gone : {X : Type 0} (n : ℕ) (u : X → Bool) (xs : List X) (k : ℕ) (y : X) → passes u (slice_get xs k) ≡ true → u y ≡ false → places_from n u (set xs k y) ≡ filter (λ (o : ℕ). not (eqb o (n + k))) (places_from n u xs)
places_gone n u [] k y was out = refl
places_gone n u (x ∷ xs) zero y was out =
    let rest : List ℕ = places_from (n + 1) u xs in
    let at : ℕ → Bool = λ o. not (eqb o (n + 0)) in
    let here : eqb n (n + 0) ≡ true = grind (arith, nat_tests) in
    let behind : filter at rest ≡ rest = apart (n + 0) (n + 1) u xs (omega arith) in
    ap (λ (b : Bool). cond b (n ∷ rest) rest) out
    ∙ sym (ap (λ (b : Bool). filter at (cond b (n ∷ rest) rest)) was ∙ ap (λ (b : Bool). cond (not b) (n ∷ filter at rest) (filter at rest)) here ∙ behind)
places_gone n u (x ∷ xs) (suc k) y was out =
    let at : ℕ → Bool = λ o. not (eqb o (n + suc k)) in
    let new : List ℕ = places_from (n + 1) u (set xs k y) in
    let rest : List ℕ = places_from (n + 1) u xs in
    let e : (n + 1) + k ≡ n + suc k = omega arith in
    let later : new ≡ filter at rest = places_gone (n + 1) u xs k y was out ∙ ap (λ (m : ℕ). filter (λ (o : ℕ). not (eqb o m)) rest) e in
    let other : eqb n (n + suc k) ≡ false = grind (arith, nat_tests) in
    let P : Bool → Type 0 = λ b. cond b (n ∷ new) new ≡ filter at (cond b (n ∷ rest) rest) in
    elim (u x) as P [
      | true ↦ ap (λ (l : List ℕ). n ∷ l) later ∙ sym (ap (λ (b : Bool). cond (not b) (n ∷ filter at rest) (filter at rest)) other)
      | false ↦ later
    ]
