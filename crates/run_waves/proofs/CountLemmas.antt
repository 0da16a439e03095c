-- How many signals a board has.
use Rattle.std.proofs.Common.{◌≡◌, ℕ, zero, suc, ◌+◌, ◌*◌, ◌^◌, ◌≤◌, ◌==◌, Bool, true, false, cond, count_by, List, [], ◌∷◌, ◌++◌, length, Option, Some, slice_get, refl, ap, ◌∙◌, arith}
use Rattle.std.specs.List.{filter, flat_map, range_with_len}
use Rattle.std.proofs.Math.Nat.{suc-mul}
use Rattle.std.proofs.lemmas.List.{length-append}
use Rattle.std.proofs.lemmas.List.FromFn.{length-range_with_len}
use Rattle.std.proofs.lemmas.List.Sums.{length-filter, count_by-le-length}
use Rattle.board_model.specs.Limits.{most_agents}
use Rattle.board_model.specs.declared.agents.Master.{Master}
use Rattle.board_model.specs.declared.agents.Target.{Target}
use Rattle.board_model.specs.declared.board.Board.{Board}
use Rattle.board_model.specs.WellFormed.{AreFew}
use Rattle.board_model.specs.Valid.{is_bus, IsValid}
use Rattle.board_model.proofs.Laws.{WellFormed-parts}
use Rattle.board_model.proofs.FewLemmas.{on_bus, on_bus-count, few_targets_on, few_masters_on}
use Rattle.history_model.specs.Answers.{is_on}
use Rattle.run_report.specs.Report.{buses_of}
use Rattle.run_waves.specs.declared.signal.Signal.{Signal}
use Rattle.run_waves.specs.Signals.{lanes_on, lane_counts, progress, tokens_left, masters_on, is_target_on, targets_on, signals_on, signals_of}

-- at most so many of each
flat_few : {X Y : Type 0} (f : X → List Y) (most : ℕ) → ((x : X) → length (f x) ≤ most) → (xs : List X) → length (flat_map f xs) ≤ length xs * most
flat_few f most each [] = omega arith
flat_few f most each (x ∷ xs) = omega (arith, length-append (f x) (flat_map f xs), suc-mul (length xs) most, each x, flat_few f most each xs)

longer : {X Y : Type 0} (b : Bool) (x : X) (y : Y) (xs : List X) (ys : List Y) → length xs ≡ length ys → length (cond b (x ∷ xs) xs) ≡ length (cond b (y ∷ ys) ys)
longer true x y xs ys same = ap suc same
longer false x y xs ys same = same

shifted : (test : ℕ → Bool) (a n : ℕ) → length (filter test (range_with_len (a + 1) n)) ≡ length (filter (λ k. test (suc k)) (range_with_len a n))
shifted test a zero = refl
shifted test a (suc n) =
    let next : a + 1 ≡ suc a = omega arith in
    let rest : List ℕ = filter test (range_with_len (a + 1 + 1) n) in
    ap (λ (b : Bool). length (cond b ((a + 1) ∷ rest) rest)) (ap test next)
    ∙ longer (test (suc a)) (a + 1) a rest (filter (λ k. test (suc k)) (range_with_len (a + 1) n)) (shifted test (a + 1) n)

-- as many places pass as elements do
places_pass : {X : Type 0} (test : Option X → Bool) (xs : List X) → length (filter (λ k. test (slice_get xs k)) (range_with_len 0 (length xs))) ≡ length (filter (λ x. test (Some x)) xs)
places_pass test [] = refl
places_pass test (x ∷ xs) =
    let places : List ℕ = filter (λ k. test (slice_get (x ∷ xs) k)) (range_with_len (0 + 1) (length xs)) in
    longer (test (Some x)) 0 x places (filter (λ y. test (Some y)) xs) (shifted (λ k. test (slice_get (x ∷ xs) k)) 0 (length xs) ∙ places_pass test xs)

-- The agents of a bus are few.

few_masters : (board : Board) (bus : ℕ) → AreFew board → length (masters_on board bus) ≤ most_agents
few_masters board bus few =
    let test : Master → Bool = λ master. master.bus == bus in
    let counted : on_bus (λ (master : Master). master.bus) bus board.masters ≡ count_by test board.masters = on_bus-count (λ (master : Master). master.bus) bus board.masters in
    omega (arith, places_pass (is_on bus) board.masters, length-filter test board.masters, counted, few_masters_on board bus few)

few_targets : (board : Board) (bus : ℕ) → AreFew board → length (targets_on board bus) ≤ most_agents
few_targets board bus few =
    let test : Target → Bool = λ target. target.bus == bus in
    let counted : on_bus (λ (target : Target). target.bus) bus board.targets ≡ count_by test board.targets = on_bus-count (λ (target : Target). target.bus) bus board.targets in
    omega (arith, places_pass (is_target_on bus) board.targets, length-filter test board.targets, counted, few_targets_on board bus few)

-- 5 signals of what happens on a bus, 12 of its lanes, three of each of its masters and one of each of its targets

few_lanes : (bus : ℕ) → length (lanes_on bus) ≤ 12
few_lanes bus =
    let both : List Signal = lane_counts (record { bus = bus; up = false }) ++ lane_counts (record { bus = bus; up = true }) in
    let P : Bool → Type 0 = λ b. length (cond b [] both) ≤ 12 in
    elim (bus == 0) as P [ true ↦ omega arith | false ↦ omega arith ]

few_on : (board : Board) (bus : ℕ) → AreFew board → length (signals_on board bus) ≤ 49
few_on board bus few =
    let lanes : List Signal = lanes_on bus in
    let masters : List Signal = flat_map progress (masters_on board bus) in
    let targets : List Signal = flat_map tokens_left (targets_on board bus) in
    let of_masters = flat_few progress 3 (λ _. omega arith) (masters_on board bus) in
    let of_targets = flat_few tokens_left 1 (λ _. omega arith) (targets_on board bus) in
    omega
    (arith, length-append lanes (masters ++ targets), length-append masters targets, few_lanes bus, of_masters, of_targets, few_masters board bus few, few_targets board bus few)

few_below : (test : ℕ → Bool) (n : ℕ) → length (filter test (range_with_len 0 n)) ≤ n
few_below test n = omega (arith, length-filter test (range_with_len 0 n), count_by-le-length test (range_with_len 0 n), length-range_with_len 0 n)

few_buses : (board : Board) → length (buses_of board) ≤ 256
few_buses board = few_below (is_bus board) 256

three_digits : (buses signals : ℕ) → signals ≤ buses * 49 → buses ≤ 256 → signals ≤ 94 ^ 3
three_digits buses signals each few = omega arith

-- so there are no more than numbers of three digits
pub few_signals : (board : Board) → IsValid board → length (signals_of board) ≤ 94 ^ 3
unfolding signals_of
few_signals board valid =
    let few : AreFew board = (WellFormed-parts board valid.well_formed).few in
    three_digits (length (buses_of board)) (length (flat_map (signals_on board) (buses_of board)))
    (flat_few (signals_on board) 49 (λ bus. few_on board bus few) (buses_of board)) (few_buses board)
