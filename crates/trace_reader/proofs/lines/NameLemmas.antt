-- The first place of each name, while the names are gone through.
use Rattle.std.proofs.Common.{◌≢◌, get_or-set_other, get_or-set_same, ◌≡◌, ℕ, ◌+◌, ◌<◌, ◌≤◌, Bool, true, false, cond, eqb, ltb, List, [], ◌∷◌, ◌++◌, length, take, get_or, Option, Some, None, refl, ap, sym, ◌∙◌, arith, inl, inr}
use Rattle.std.specs.Prelude.{is_some, ◌||◌}
use Rattle.std.specs.List.{position, position_or_len, find, list_any}
use Rattle.std.specs.Str.{bytes_eq}
use Rattle.std.specs.Map.{update}
use Rattle.std.specs.Option.{option_map}
use Rattle.std.proofs.lemmas.Bool.{cases_lt}
use Rattle.std.proofs.lemmas.Bool.Decides.{nat_tests}
use borrow.Author.Count.{below_more}
use Rattle.std.proofs.Math.ListN.{set}
use Rattle.std.proofs.lemmas.List.{length-append, length-take-le, take_more}
use Rattle.std.proofs.lemmas.List.Folds.{position_or_len_push}
use Rattle.std.proofs.lemmas.List.Sums.{prefix_len-le-length}
use Rattle.std.proofs.lemmas.Slice.Eq.{bytes_eq-Decides}
use Rattle.board_model.specs.declared.board.Board.{Board}
use Rattle.board_model.specs.declared.bridge.Bridge.{Bridge}
use Rattle.board_model.specs.WellFormed.{has_bus}
use Rattle.board_model.specs.Valid.{has_bridge_to}
use Rattle.trace_reader.specs.lines.Names.{also_at, above}

-- the first of so many places, where the last may be one
place_more : (n m : ℕ) (here : Bool) → n ≤ m → cond (ltb (cond (eqb n m) (m + cond here 0 1) n) (m + 1)) (Some (cond (eqb n m) (m + cond here 0 1) n)) None ≡ also_at (cond (ltb n m) (Some n) None) here m
place_more n m true within =
    elim (cases_lt n m) [
      | inl inside ↦
          let apart : eqb n m ≡ false = grind (arith, nat_tests) in
          let before : ltb n m ≡ true = grind (arith, nat_tests) in
          let still : ltb n (m + 1) ≡ true = grind (arith, nat_tests) in
          rw (apart, before, still) refl
      | inr past ↦
          let same : eqb n m ≡ true = grind (arith, nat_tests) in
          let before : ltb n m ≡ false = grind (arith, nat_tests) in
          let last : ltb (m + 0) (m + 1) ≡ true = grind (arith, nat_tests) in
          let sum : m + 0 ≡ m = omega arith in
          rw (same, before, last, sum) refl
    ]
place_more n m false within =
    elim (cases_lt n m) [
      | inl inside ↦
          let apart : eqb n m ≡ false = grind (arith, nat_tests) in
          let before : ltb n m ≡ true = grind (arith, nat_tests) in
          let still : ltb n (m + 1) ≡ true = grind (arith, nat_tests) in
          rw (apart, before, still) refl
      | inr past ↦
          let same : eqb n m ≡ true = grind (arith, nat_tests) in
          let before : ltb n m ≡ false = grind (arith, nat_tests) in
          let last : ltb (m + 1) (m + 1) ≡ false = grind (arith, nat_tests) in
          rw (same, before, last) refl
    ]

-- one element more
pub position_more : {X : Type 0} (p : X → Bool) (xs : List X) (x : X) → position p (xs ++ x ∷ []) ≡ also_at (position p xs) (p x) (length xs)
position_more p xs x =
    let size : length (xs ++ x ∷ []) ≡ length xs + 1 = length-append xs (x ∷ []) in
    let within : position_or_len p xs ≤ length xs = prefix_len-le-length _ xs in
    rw (size, position_or_len_push p xs x) (place_more (position_or_len p xs) (length xs) (p x) within)

-- a name that has no place gets this one
pub name_is_new : (at : List ℕ → Option ℕ) (name word : List ℕ) (place : ℕ) → is_some (at name) ≡ false → update bytes_eq at name (Some place) word ≡ also_at (at word) (bytes_eq name word) place
name_is_new at name word place new =
    let P : Bool → Type 0 = λ b. bytes_eq name word ≡ b → cond b (Some place) (at word) ≡ also_at (at word) b place in
    (elim (bytes_eq name word) as P [
      | true ↦ λ is.
          let same : name ≡ word = (bytes_eq-Decides name word).0 is in
          let absent : is_some (at word) ≡ false = ap (λ (w : List ℕ). is_some (at w)) (sym same) ∙ new in
          let Q : Option ℕ → Type 0 = λ found. is_some found ≡ false → Some place ≡ also_at found true place in
          (elim (at word) as Q [ None ↦ λ none. refl | Some other ↦ λ none. absurd cc ]) absent
      | false ↦ λ differs.
          let Q : Option ℕ → Type 0 = λ found. found ≡ also_at found false place in
          elim (at word) as Q [ None ↦ refl | Some other ↦ refl ]
    ]) refl

-- what is found is there
pub is_some-find : {X : Type 0} (p : X → Bool) (xs : List X) → is_some (find p xs) ≡ list_any p xs
is_some-find p [] = refl
is_some-find p (x ∷ xs) =
    let P : Bool → Type 0 = λ b. is_some (cond b (Some x) (find p xs)) ≡ (b || list_any p xs) in
    elim (p x) as P [ true ↦ refl | false ↦ is_some-find p xs ]

-- a bridge is there where a bus above it is
pub above_some : (board : Board) (bus : ℕ) → is_some (above board bus) ≡ has_bridge_to board bus
above_some board bus =
    let P : Option Bridge → Type 0 = λ found. is_some (option_map (λ (bridge : Bridge). bridge.parent) found) ≡ is_some found in
    let same : is_some (above board bus) ≡ is_some (find (has_bus bus) board.bridges) = elim (find (has_bus bus) board.bridges) as P [ None ↦ refl | Some bridge ↦ refl ] in
    same ∙ is_some-find (has_bus bus) board.bridges

-- the first place of a name among one element more
pub places_more : {X : Type 0} (p : X → Bool) (xs : List X) (i : ℕ) (x : X) (old new : Option ℕ) (here : Bool) → i < length xs → x ≡ get_or xs i x → old ≡ position p (take i xs) → here ≡ p x → new ≡ also_at old here i → new ≡ position p (take (i + 1) xs)
places_more {X = X} p xs i x old new here inside at was told is =
    let more : take (i + 1) xs ≡ take i xs ++ x ∷ [] = take_more xs i x inside ∙ ap (λ (y : X). take i xs ++ y ∷ []) (sym at) in
    let size : length (take i xs) ≡ i = length-take-le i xs (omega arith) in
    is ∙ ap (λ (o : Option ℕ). also_at o here i) was ∙ ap (λ (b : Bool). also_at (position p (take i xs)) b i) told ∙ ap (λ (n : ℕ). also_at (position p (take i xs)) (p x) n) (sym size) ∙ sym (position_more p (take i xs) x) ∙ ap (position p) (sym more)

-- what is written at a place is there, and what stands before it stays
pub known_more : (xs : List (Option ℕ)) (i : ℕ) (v : Option ℕ) (f : ℕ → Option ℕ) → i < length xs → v ≡ f i → ((k : ℕ) → k < i → get_or xs k None ≡ f k) → (k : ℕ) → k < i + 1 → get_or (set xs i v) k None ≡ f k
known_more xs i v f inside is known =
    let P : ℕ → Type 0 = λ k. get_or (set xs i v) k None ≡ f k in
    below_more P i (λ k h. let ne : k ≢ i = omega arith in rw get_or-set_other (known k h)) (rw get_or-set_same is)
