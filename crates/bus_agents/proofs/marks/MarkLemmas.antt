-- Numbers that lines name, and what is marked by them.
use Rattle.std.proofs.Common.{◌≡◌, ◌≢◌, ℕ, zero, suc, Bool, true, false, ◌+◌, ◌<◌, ◌≤◌, ◌&&◌, ◌||◌, ◌==◌, length, get_or, take, List, [], ◌∷◌, ◌++◌, Result, Ok, Err, refl, sym, ap, subst, ◌∙◌, arith, if◌then◌else◌}
use Rattle.std.specs.Result.{is_ok}
use Rattle.std.specs.Ordering.{nat_cmp}
use Rattle.std.specs.List.{list_any}
use Rattle.std.specs.List.Sorted.{IsNonDecreasing, IsBinarySearchResult}
use Rattle.std.proofs.lemmas.Bool.Decides.{nat_tests}
use Rattle.std.proofs.lemmas.List.{take_more}
use Rattle.std.proofs.lemmas.List.Sorted.{searched}
use Rattle.list_facts.proofs.AnyLemmas.{any-push, any-push_here, any-push_other}
use Rattle.board_model.specs.declared.bridge.Lane.{Lane as BridgeLane}
use Rattle.board_model.specs.declared.board.Board.{Board}
use Rattle.board_model.specs.declared.board.Planned.{Planned}
use Rattle.history_model.specs.declared.event.Mark.{Mark}
use Rattle.history_model.specs.declared.event.Mark.TheVariants.{Plain, Discard, Drop}
use Rattle.history_model.specs.World.{same_lane, same_direction}
use Rattle.history_model.specs.Runs.{names, mark_of}
use Rattle.pci_command.specs.declared.op_id.OpId.{OpId}
use Rattle.pci_command.specs.declared.op_id.Outcome.{Outcome}
use Rattle.history_model.specs.declared.item.Carried.{Carried}
use Rattle.history_model.specs.declared.item.Carried.TheVariants.{Post, Ask, Done, Room, Gone}
use Rattle.history_model.specs.Lanes.{LaneState, asks_in, dones_in}
use Rattle.bus_agents.specs.marks.Marks.{MarksView, AreNamed, MarksStand, MarksArrival}

-- a number that is among others is found by its place
any_there : (xs : List ℕ) (x i : ℕ) → i < length xs → get_or xs i 0 ≡ x → list_any (λ (one : ℕ). one == x) xs ≡ true
any_there [] x i within is = absurd (omega (arith, within))
any_there (y ∷ xs) x zero within is = let here : (y == x) ≡ true = grind (arith, nat_tests, is) in rw here refl
any_there (y ∷ xs) x (suc i) within is =
    let later : list_any (λ (one : ℕ). one == x) xs ≡ true = any_there xs x i (omega (arith, within)) is in
    let P : Bool → Type 0 = λ b. (b || list_any (λ (one : ℕ). one == x) xs) ≡ true in
    elim (y == x) as P [ true ↦ refl | false ↦ later ]

-- one that differs from each is not among them
pub none_there : (xs : List ℕ) (x : ℕ) → ((k : ℕ) → k < length xs → get_or xs k 0 ≢ x) → list_any (λ (one : ℕ). one == x) xs ≡ false
none_there [] x none = refl
none_there (y ∷ xs) x none =
    let differs : y ≢ x = none 0 (omega arith) in
    let first : (y == x) ≡ false = grind (arith, nat_tests, differs) in
    rw first (none_there xs x (λ k within. none (suc k) (omega (arith, within))))

-- a search among numbers that do not fall finds a number exactly where it is among them
pub found_among : (xs : List ℕ) (x : ℕ) (r : Result ℕ ℕ) → IsNonDecreasing xs → IsBinarySearchResult (λ (y : ℕ). nat_cmp y x) xs r → is_ok r ≡ list_any (λ (one : ℕ). one == x) xs
found_among xs x (Ok i) rises result =
    let found = searched xs x (Ok i) result (λ i j le below. rises i j 0 le below) in
    sym (any_there xs x i found.0 found.1)
found_among xs x (Err i) rises result =
    let found = searched xs x (Err i) result (λ i j le below. rises i j 0 le below) in
    let none : (k : ℕ) → k < length xs → get_or xs k 0 ≢ x = λ k within same. absurd (by_side k within same) in
    sym (none_there xs x none) where
      by_side : (k : ℕ) → k < length xs → get_or xs k 0 ≡ x → ⊥
      by_side k within same =
          let found = searched xs x (Err i) result (λ i j le below. rises i j 0 le below) in
          grind (arith, found.1 k, found.2 k, within, same)

-- one more line is looked at
pub named_more : (lane : BridgeLane) (lines : List Planned) (i : ℕ) (line : Planned) (numbers more : List ℕ) → i < length lines → line ≡ get_or lines i line → AreNamed lane (take i lines) numbers
    → same_lane (record { bus = line.bus; up = line.up }) lane ≡ true → more ≡ numbers ++ line.count ∷ [] → AreNamed lane (take (i + 1) lines) more
named_more lane lines i line numbers more within is named same pushed = record { each = one } where
  one : (n : ℕ) → list_any (λ (number : ℕ). number == n) more ≡ list_any (names lane n) (take (i + 1) lines)
  one n =
      let test : ℕ → Bool = λ number. number == n in
      let last : names lane n line ≡ (line.count == n) = rw same refl in
      let lists : take (i + 1) lines ≡ take i lines ++ line ∷ [] = take_more lines i line within ∙ ap (λ (l : Planned). take i lines ++ l ∷ []) (sym is) in
      ap (list_any test) pushed ∙ any-push test numbers line.count
      ∙ (let a : list_any test numbers ≡ list_any (names lane n) (take i lines) = named.each n in
      rw (a, ← last) (sym (any-push (names lane n) (take i lines) line) ∙ ap (list_any (names lane n)) (sym lists)))

pub named_same : (lane : BridgeLane) (lines : List Planned) (i : ℕ) (line : Planned) (numbers : List ℕ) → i < length lines → line ≡ get_or lines i line → AreNamed lane (take i lines) numbers
    → same_lane (record { bus = line.bus; up = line.up }) lane ≡ false → AreNamed lane (take (i + 1) lines) numbers
named_same lane lines i line numbers within is named other = record { each = one } where
  one : (n : ℕ) → list_any (λ (number : ℕ). number == n) numbers ≡ list_any (names lane n) (take (i + 1) lines)
  one n =
      let last : names lane n line ≡ false = rw other refl in
      let lists : take (i + 1) lines ≡ take i lines ++ line ∷ [] = take_more lines i line within ∙ ap (λ (l : Planned). take i lines ++ l ∷ []) (sym is) in
      named.each n ∙ (sym (any-push_other (names lane n) (take i lines) line last) ∙ ap (list_any (names lane n)) (sym lists))

-- whether a line is of the lane, by its bus and its direction
pub same_by : (a b : BridgeLane) → a.bus ≡ b.bus → a.up ≡ b.up → same_lane a b ≡ true
same_by a b bus up =
    let first : (a.bus == b.bus) ≡ true = grind (arith, nat_tests, bus) in
    rw (first, up) (self b.up) where
      self : (x : Bool) → same_direction x x ≡ true
      self true = refl
      self false = refl

-- A delayed request, and a completion.
pub ask_marked : (old : MarksView) (mark : Mark) → mark ≡ (if list_any (λ (number : ℕ). number == old.asks + 1) old.drops then Drop else Plain)
    → (op : OpId) (slot : ℕ) (new : MarksView) → new ≡ record old { asks = old.asks + 1 } → MarksArrival old (Ask op slot) mark new
ask_marked old mark is op slot new counted =
    record {
      marked = λ board lane state stands.
          let number : old.asks + 1 ≡ state.asks + 1 = ap (λ (n : ℕ). n + 1) stands.asks_are in
          let named = stands.drops_are.each (state.asks + 1) in
          let F : ℕ → Mark = λ n. if list_any (λ (number : ℕ). number == n) old.drops then Drop else Plain in
          is ∙ ap F number ∙ ap (λ (b : Bool). if b then Drop else Plain) named;
      counted = λ board lane asks dones stands.
          rw counted (record {
            asks_are = ap (λ (n : ℕ). n + 1) stands.asks_are;
            dones_are = stands.dones_are ∙ omega arith;
            drops_are = stands.drops_are;
            discards_are = stands.discards_are;
          });
    }

pub done_marked : (old : MarksView) (mark : Mark) → mark ≡ (if list_any (λ (number : ℕ). number == old.dones + 1) old.discards then Discard else Plain)
    → (op : OpId) (slot : ℕ) (outcome : Outcome) (new : MarksView) → new ≡ record old { dones = old.dones + 1 } → MarksArrival old (Done op slot outcome) mark new
done_marked old mark is op slot outcome new counted =
    record {
      marked = λ board lane state stands.
          let number : old.dones + 1 ≡ state.dones + 1 = ap (λ (n : ℕ). n + 1) stands.dones_are in
          let named = stands.discards_are.each (state.dones + 1) in
          let F : ℕ → Mark = λ n. if list_any (λ (number : ℕ). number == n) old.discards then Discard else Plain in
          is ∙ ap F number ∙ ap (λ (b : Bool). if b then Discard else Plain) named;
      counted = λ board lane asks dones stands.
          rw counted (record {
            asks_are = stands.asks_are ∙ omega arith;
            dones_are = ap (λ (n : ℕ). n + 1) stands.dones_are;
            drops_are = stands.drops_are;
            discards_are = stands.discards_are;
          });
    }

-- what else arrives is plain and not counted
pub plain_marked : (old : MarksView) (item : Carried) → asks_in item ≡ 0 → dones_in item ≡ 0 → ((board : Board) (lane : BridgeLane) (state : LaneState) → Plain ≡ mark_of board lane state item) → MarksArrival old item Plain old
plain_marked old item no_ask no_done plain =
    record {
      marked = λ board lane state stands. plain board lane state;
      counted = λ board lane asks dones stands.
          record {
            asks_are = stands.asks_are ∙ omega (arith, no_ask);
            dones_are = stands.dones_are ∙ omega (arith, no_done);
            drops_are = stands.drops_are;
            discards_are = stands.discards_are;
          };
    }
