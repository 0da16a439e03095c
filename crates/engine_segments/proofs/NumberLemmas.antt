-- The numbers below a bound that pass a test: which they are, that each is there once, and how a loop finds them.
use Rattle.std.proofs.Common.{◌≡◌, ℕ, zero, suc, ◌+◌, ◌<◌, Bool, true, false, cond, List, [], ◌∷◌, ◌++◌, Some, refl, sym, ap, subst, ◌∙◌, arith, add-one, add-zero, zero-add, append-nil, slice_get}
use Rattle.std.specs.List.{filter, range_with_len}
use Rattle.std.specs.List.Sorted.{IsStrictlyIncreasing}
use Rattle.std.proofs.lemmas.List.Elements.{filter-append, filter_passes}
use Rattle.std.proofs.lemmas.List.FromFn.{length-range_with_len, get_or-range_with_len}
use Rattle.std.proofs.lemmas.List.Kept.{IsStrictlyIncreasing-filter, AllPairs-from_increasing}
use Rattle.std.proofs.lemmas.Option.{slice_get_within, slice_get-get_or, get_or_from_slice_get}
use Rattle.board_model.specs.declared.board.Board.{Board}
use Rattle.board_model.specs.Valid.{is_bus}
use Rattle.bus_core.specs.Bus.{HasPlace}
use Rattle.engine_segments.specs.First.{buses_of, is_below, children_of}

-- Which they are.

range_rises : (a n : ℕ) → IsStrictlyIncreasing (range_with_len a n)
range_rises a n k within =
    let many = length-range_with_len a n in
    let one = get_or-range_with_len a n k 0 (omega (arith, many)) in
    let two = get_or-range_with_len a n (k + 1) 0 (omega (arith, many)) in
    omega (arith, one, two)

pub passing_rise : (p : ℕ → Bool) (n : ℕ) → IsStrictlyIncreasing (filter p (range_with_len 0 n))
passing_rise p n = IsStrictlyIncreasing-filter p (range_with_len 0 n) (range_rises 0 n)

-- a number at a later place is greater
later_above : (xs : List ℕ) → IsStrictlyIncreasing xs → (i j a b : ℕ) → slice_get xs i ≡ Some a → slice_get xs j ≡ Some b → i < j → a < b
later_above xs rise i j a b one two before =
    let pairs = AllPairs-from_increasing xs rise i j 0 before (slice_get_within xs j b two) in
    omega (arith, pairs, get_or_from_slice_get xs i a 0 one, get_or_from_slice_get xs j b 0 two)

-- a number has one place
pub one_place : (xs : List ℕ) → IsStrictlyIncreasing xs → (i j a : ℕ) → slice_get xs i ≡ Some a → slice_get xs j ≡ Some a → i ≡ j
one_place xs rise i j a one two =
    let up : i < j → a < a = λ before. later_above xs rise i j a a one two before in
    let down : j < i → a < a = λ before. later_above xs rise j i a a two one before in
    grind (arith, up, down)

pub passes_at : (p : ℕ → Bool) (xs : List ℕ) (k x : ℕ) → slice_get (filter p xs) k ≡ Some x → p x ≡ true
passes_at p xs k x there =
    subst (λ (y : ℕ). p y ≡ true) (get_or_from_slice_get (filter p xs) k x 0 there) (filter_passes p xs k 0 (slice_get_within (filter p xs) k x there))

filter_place : (p : ℕ → Bool) (xs : List ℕ) (k x : ℕ) → slice_get xs k ≡ Some x → p x ≡ true → HasPlace (filter p xs) x
filter_place p [] k x there passes = cc
filter_place p (y ∷ ys) zero x there passes =
    let same : y ≡ x = cc in
    let P : Bool → Type 0 = λ b. p y ≡ b → HasPlace (cond b (y ∷ filter p ys) (filter p ys)) x in
    (elim (p y) as P [ true ↦ λ _. (0, ap Some same) | false ↦ λ fails. let both : p y ≡ true = ap p same ∙ passes in cc ]) refl
filter_place p (y ∷ ys) (suc k) x there passes =
    let later = filter_place p ys k x there passes in
    let P : Bool → Type 0 = λ b. HasPlace (cond b (y ∷ filter p ys) (filter p ys)) x in
    elim (p y) as P [ true ↦ (suc later.0, later.1) | false ↦ later ]

-- a number below the bound that passes is there
pub passing_place : (p : ℕ → Bool) (n x : ℕ) → x < n → p x ≡ true → HasPlace (filter p (range_with_len 0 n)) x
passing_place p n x below passes =
    let many = length-range_with_len 0 n in
    let at : slice_get (range_with_len 0 n) x ≡ Some x =
    slice_get-get_or (range_with_len 0 n) x 0 (omega (arith, many)) ∙ ap Some (get_or-range_with_len 0 n x 0 below ∙ zero-add x) in
    filter_place p (range_with_len 0 n) x x at passes

-- How a loop finds them.

range_more : (a n : ℕ) → range_with_len a (suc n) ≡ range_with_len a n ++ (a + n) ∷ []
range_more a zero = ap (λ (k : ℕ). k ∷ []) (sym (add-zero a))
range_more a (suc n) =
    let F : List ℕ → List ℕ = λ l. a ∷ l in
    let same : (a + 1) + n ≡ a + suc n = omega arith in
    ap F (range_more (a + 1) n ∙ ap (λ (k : ℕ). range_with_len (a + 1) n ++ k ∷ []) same)

passing_next : (p : ℕ → Bool) (n : ℕ) → filter p (range_with_len 0 (n + 1)) ≡ filter p (range_with_len 0 n) ++ cond (p n) (n ∷ []) []
passing_next p n =
    ap (λ (k : ℕ). filter p (range_with_len 0 k)) (add-one n)
    ∙ (ap (filter p) (range_more 0 n)
    ∙ (filter-append p (range_with_len 0 n) ((0 + n) ∷ []) ∙ ap (λ (k : ℕ). filter p (range_with_len 0 n) ++ filter p (k ∷ [])) (zero-add n)))

pub passing_more : (p : ℕ → Bool) (n : ℕ) → p n ≡ true → filter p (range_with_len 0 (n + 1)) ≡ filter p (range_with_len 0 n) ++ n ∷ []
passing_more p n passes = passing_next p n ∙ ap (λ (b : Bool). filter p (range_with_len 0 n) ++ cond b (n ∷ []) []) passes

pub passing_skipped : (p : ℕ → Bool) (n : ℕ) → p n ≡ false → filter p (range_with_len 0 (n + 1)) ≡ filter p (range_with_len 0 n)
passing_skipped p n fails = passing_next p n ∙ (ap (λ (b : Bool). filter p (range_with_len 0 n) ++ cond b (n ∷ []) []) fails ∙ append-nil (filter p (range_with_len 0 n)))

-- The buses of a board, and those below a bus.

pub buses_rise : (board : Board) → IsStrictlyIncreasing (buses_of board)
unfolding buses_of
buses_rise board = passing_rise (is_bus board) 256

pub children_rise : (board : Board) (bus : ℕ) → IsStrictlyIncreasing (children_of board bus)
unfolding children_of
children_rise board bus = passing_rise (is_below board bus) 256

pub bus_place : (board : Board) (bus : ℕ) → bus < 256 → is_bus board bus ≡ true → HasPlace (buses_of board) bus
unfolding buses_of
bus_place board bus = passing_place (is_bus board) 256 bus

pub child_place : (board : Board) (bus child : ℕ) → child < 256 → is_below board bus child ≡ true → HasPlace (children_of board bus) child
unfolding children_of
child_place board bus child = passing_place (is_below board bus) 256 child

pub child_below : (board : Board) (bus k child : ℕ) → slice_get (children_of board bus) k ≡ Some child → is_below board bus child ≡ true
unfolding children_of
child_below board bus k child there = passes_at (is_below board bus) (range_with_len 0 256) k child there

-- those found at last
pub all_buses : (board : Board) (n : ℕ) (found : List ℕ) → n ≡ 256 → found ≡ filter (is_bus board) (range_with_len 0 n) → found ≡ buses_of board
unfolding buses_of
all_buses board n found last are = are ∙ ap (λ (k : ℕ). filter (is_bus board) (range_with_len 0 k)) last

pub all_children : (board : Board) (bus n : ℕ) (found : List ℕ) → n ≡ 256 → found ≡ filter (is_below board bus) (range_with_len 0 n) → found ≡ children_of board bus
unfolding children_of
all_children board bus n found last are = are ∙ ap (λ (k : ℕ). filter (is_below board bus) (range_with_len 0 k)) last
