-- On a bus of a well-formed board there are few bridges below it and few masters.
use Rattle.std.proofs.Common.{◌≡◌, ℕ, zero, suc, ◌+◌, ◌≤◌, ◌==◌, ◌&&◌, nat_lt, Bool, true, false, cond, List, [], ◌∷◌, ◌++◌, length, map, count_by, inl, inr, Option, Some, refl, sym, ap, subst, ◌∙◌, arith, add-one, add-zero, length-append, if◌then◌else◌, slice_get}
use Rattle.std.specs.List.{filter, range_with_len, list_any}
use Rattle.std.proofs.lemmas.Bool.{and_parts}
use Rattle.std.proofs.lemmas.Bool.Decides.{nat_tests}
use Rattle.std.proofs.lemmas.List.{length-map}
use Rattle.std.proofs.lemmas.List.Recursion.{is_sum_by}
use Rattle.list_facts.specs.Lists.{total}
use Rattle.list_facts.proofs.AnyLemmas.{any_some, found_any, total_falls}
use Rattle.list_facts.proofs.FindLemmas.{find_passes}
use Rattle.list_facts.proofs.TotalLemmas.{total-le}
use Rattle.board_model.specs.Limits.{most_children, most_agents, most_ports}
use Rattle.board_model.specs.declared.agents.Master.{Master}
use Rattle.board_model.specs.declared.bridge.Bridge.{Bridge}
use Rattle.board_model.specs.declared.board.Board.{Board}
use Rattle.board_model.specs.Valid.{has_bridge_to}
use Rattle.board_model.specs.Ways.{primary_in, primary_of}
use Rattle.board_model.specs.WellFormed.{is_well_formed, children_on}
use Rattle.board_model.proofs.Laws.{WellFormed-parts}
use Rattle.board_model.proofs.FewLemmas.{none_or_few, few_masters_on}
use Rattle.history_model.specs.Answers.{is_on}
use Rattle.engine_segments.specs.First.{is_below, children_of, lanes_to, masters_on, up_from}
use Rattle.engine_segments.proofs.NumberLemmas.{passing_more, passing_skipped}

-- as many as pass
total-count : {X : Type 0} (test : X → Bool) (xs : List X) → total (λ x. cond (test x) 1 0) xs ≡ count_by test xs
total-count test xs = is_sum_by (total (λ x. cond (test x) 1 0)) (λ x. cond (test x) 1 0) refl (λ _ _. refl) xs

-- Bridges below a bus.

module _ (board : Board) (bus : ℕ) where
  abbrev IsChild : Bridge → Bool
  IsChild bridge = bridge.parent == bus

  -- a bridge below the bus with a number below this one
  abbrev IsLower : ℕ → Bridge → Bool
  IsLower n bridge = nat_lt bridge.bus n && IsChild bridge

  abbrev lower : ℕ → Bridge → ℕ
  lower n bridge = cond (IsLower n bridge) 1 0

  abbrev IsNext : ℕ → Bridge → Bool
  IsNext n bridge = bridge.bus == n && IsChild bridge

  one_lower : (n b : ℕ) (child : Bool) → cond (nat_lt b n && child) 1 0 ≤ cond (nat_lt b (n + 1) && child) 1 0
  one_lower n b true = grind (arith, nat_tests)
  one_lower n b false = grind (arith, nat_tests)

  next_lower : (n b : ℕ) (child : Bool) → (b == n && child) ≡ true → cond (nat_lt b n && child) 1 0 + 1 ≤ cond (nat_lt b (n + 1) && child) 1 0
  next_lower n b true is = grind (arith, nat_tests)
  next_lower n b false is = grind (arith, nat_tests)

  -- the bridge below the bus to this number is there
  next_there : (n : ℕ) → is_below board bus n ≡ true → list_any (IsNext n) board.bridges ≡ true
  next_there n below =
      let parts = and_parts (has_bridge_to board n) (primary_of board n == bus) below in
      let found = any_some (λ (b : Bridge). b.bus == n) board.bridges parts.0 in
      let number : (found.0.bus == n) ≡ true = find_passes (λ (b : Bridge). b.bus == n) board.bridges found.0 found.1 in
      let primary : primary_of board n ≡ found.0.parent = ap primary_in found.1 in
      let child : IsChild found.0 ≡ true = ap (λ (k : ℕ). k == bus) (sym primary) ∙ parts.1 in
      found_any (λ (b : Bridge). b.bus == n) (IsNext n) board.bridges found.0 found.1 (ap (λ b. b && IsChild found.0) number ∙ child)

  counted : (n : ℕ) → length (filter (is_below board bus) (range_with_len 0 n)) ≤ total (lower n) board.bridges
  counted zero = omega arith
  counted (suc n) =
      let before = counted n in
      let passing = filter (is_below board bus) (range_with_len 0 n) in
      let Goal : ℕ → Type 0 = λ k. length (filter (is_below board bus) (range_with_len 0 k)) ≤ total (lower k) board.bridges in
      let P : Bool → Type 0 = λ b. is_below board bus n ≡ b → Goal (n + 1) in
      subst Goal (add-one n) ((elim (is_below board bus n) as P [
        | true ↦ λ is.
            let more = ap length (passing_more (is_below board bus) n is) ∙ length-append passing (n ∷ []) in
            let rises = total_falls (lower n) (lower (n + 1)) (IsNext n) 1 (λ (b : Bridge). one_lower n b.bus (IsChild b)) (λ (b : Bridge) next. next_lower n b.bus (IsChild b) next) board.bridges (next_there n is) in
            omega (arith, before, more, rises)
        | false ↦ λ fails.
            let same = ap length (passing_skipped (is_below board bus) n fails) in
            let rises = total-le (lower n) (lower (n + 1)) (λ (b : Bridge). one_lower n b.bus (IsChild b)) board.bridges in
            omega (arith, before, same, rises)
      ]) refl)

  any_lower : (n b : ℕ) (child : Bool) → cond (nat_lt b n && child) 1 0 ≤ cond child 1 0
  any_lower n b true = grind (arith, nat_tests)
  any_lower n b false = grind (arith, nat_tests)

  few_children : is_well_formed board ≡ true → length (children_of board bus) ≤ most_children
  unfolding children_of
  few_children formed =
      let form = WellFormed-parts board formed in
      let below = counted 256 in
      let all = total-le (lower 256) (λ (b : Bridge). cond (IsChild b) 1 0) (λ (b : Bridge). any_lower 256 b.bus (IsChild b)) board.bridges in
      let count = total-count IsChild board.bridges in
      elim (none_or_few (λ (b : Bridge). b.parent) (children_on board) most_children bus board.bridges form.few.bridges) as (λ _. length (filter (is_below board bus) (range_with_len 0 256)) ≤ most_children) [
        | inl none ↦ let nothing : total (λ (b : Bridge). cond (IsChild b) 1 0) board.bridges ≡ 0 = none in omega (arith, below, all, nothing)
        | inr most ↦ omega (arith, below, all, count, most)
      ]

  pub few_lanes : is_well_formed board ≡ true → length (lanes_to board bus) ≤ most_ports
  few_lanes formed =
      let few = few_children formed in
      let same = length-map (children_of board bus) up_from in
      let P : Bool → Type 0 = λ own. length ((if own then record { bus = bus; up = false } ∷ [] else []) ++ map up_from (children_of board bus)) ≤ most_ports in
      elim (has_bridge_to board bus) as P [ true ↦ omega (arith, few, same) | false ↦ omega (arith, few, same) ]

-- Masters on a bus.

-- as many places of a list pass as elements of it
places_counted : {X : Type 0} (place_test : Option X → Bool) (test : X → Bool) → ((x : X) → place_test (Some x) ≡ test x) → (xs : List X) (a : ℕ) (get : ℕ → Option X) → ((k : ℕ) → get (a + k) ≡ slice_get xs k)
    → length (filter (λ n. place_test (get n)) (range_with_len a (length xs))) ≡ total (λ x. cond (test x) 1 0) xs
places_counted place_test test same [] a get gets = refl
places_counted {X} place_test test same (x ∷ xs) a get gets =
    let later = places_counted place_test test same xs (a + 1) get (λ k. ap get (let e : (a + 1) + k ≡ a + suc k = omega arith in e) ∙ gets (suc k)) in
    let rest = filter (λ n. place_test (get n)) (range_with_len (a + 1) (length xs)) in
    let more = total (λ y. cond (test y) 1 0) xs in
    let here : place_test (get a) ≡ test x = ap (λ n. place_test (get n)) (sym (add-zero a)) ∙ (ap place_test (gets 0) ∙ same x) in
    let P : Bool → Type 0 = λ b. length (cond b (a ∷ rest) rest) ≡ cond b 1 0 + more in
    ap (λ b. length (cond b (a ∷ rest) rest)) here ∙ elim (test x) as P [ true ↦ omega (arith, later) | false ↦ omega (arith, later) ]

pub few_masters : (board : Board) (bus : ℕ) → is_well_formed board ≡ true → length (masters_on board bus) ≤ most_agents
few_masters board bus formed =
    let form = WellFormed-parts board formed in
    let counted = places_counted (is_on bus) (λ (m : Master). m.bus == bus) (λ _. refl) board.masters 0 (slice_get board.masters) (λ k. ap (slice_get board.masters) (let e : 0 + k ≡ k = omega arith in e)) in
    let few : total (λ (m : Master). cond (m.bus == bus) 1 0) board.masters ≤ most_agents = few_masters_on board bus form.few in
    omega (arith, counted, few)
