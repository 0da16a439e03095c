-- On each bus of a well-formed board there are few agents and few bridges, so a board has few of both: said of whatever has a bus.
use Rattle.std.proofs.Common.{◌≡◌, ℕ, Bool, true, false, ◌+◌, ◌*◌, ◌<◌, ◌≤◌, List, [], ◌∷◌, take, get_or, length, suc, zero, refl, subst, arith, ◌==◌, ◌||◌, not, eqb, nat_le, nat_lt, count_by, cond, ◌⊎◌, inl, inr}
use Rattle.std.specs.List.{list_all, list_any, AllByRecursion}
use Rattle.std.proofs.Math.Nat.{suc-mul}
use Rattle.std.proofs.lemmas.Bool.{and_parts, or_parts, eqb-true, leb-true}
use Rattle.std.proofs.lemmas.Bool.Decides.{nat_tests}
use Rattle.std.proofs.lemmas.List.{take_more, length-take-le}
use Rattle.std.proofs.lemmas.List.Sums.{sum_by-take-le}
use Rattle.std.proofs.lemmas.List.Recursion.{is_sum_by}
use Rattle.list_facts.specs.Lists.{total}
use Rattle.list_facts.proofs.EachLemmas.{Each-push}
use Rattle.list_facts.proofs.TotalLemmas.{total-le, total-plus, total-zero}
use Rattle.board_model.specs.declared.agents.Target.{Target}
use Rattle.board_model.specs.declared.agents.Master.{Master}
use Rattle.board_model.specs.declared.bridge.Bridge.{Bridge}
use Rattle.board_model.specs.declared.board.Board.{Board}
use Rattle.board_model.specs.Limits.{most_agents, most_masters}
use Rattle.board_model.specs.WellFormed.{has_bus, agents_on, AreFew, is_well_formed}
use Rattle.board_model.specs.Valid.{is_bus, lacks_a_bus, IsValid}
use Rattle.board_model.proofs.FormLemmas.{WellFormed-parts}

abbrev one_if : Bool → ℕ
one_if test = cond test 1 0

-- how many of them are on the bus, by the bus of each
abbrev pub on_bus : {X : Type 0} → (X → ℕ) → ℕ → List X → ℕ
on_bus bus_of bus xs = total (λ x. cond (bus_of x == bus) 1 0) xs

pub on_bus-count : {X : Type 0} (bus_of : X → ℕ) (bus : ℕ) (xs : List X) → on_bus bus_of bus xs ≡ count_by (λ x. bus_of x == bus) xs
on_bus-count bus_of bus xs = is_sum_by (on_bus bus_of bus) (λ x. cond (bus_of x == bus) 1 0) refl (λ _ _. refl) xs

-- where few are counted on the bus of each, few are counted on a bus, or none is there
pub none_or_few : {X : Type 0} (bus_of : X → ℕ) (count : ℕ → ℕ) (most bus : ℕ) (xs : List X) → list_all (λ x. nat_le (count (bus_of x)) most) xs ≡ true
    → (on_bus bus_of bus xs ≡ 0) ⊎ (count bus ≤ most)
none_or_few bus_of count most bus [] few = inl refl
none_or_few bus_of count most bus (x ∷ xs) few =
    let parts = and_parts (nat_le (count (bus_of x)) most) (list_all (λ y. nat_le (count (bus_of y)) most) xs) few in
    let later = none_or_few bus_of count most bus xs parts.1 in
    let rest = on_bus bus_of bus xs in
    let P : Bool → Type 0 = λ b. (bus_of x == bus) ≡ b → (cond b 1 0 + rest ≡ 0) ⊎ (count bus ≤ most) in
    let Q : ℕ → Type 0 = λ n. count n ≤ most in
    (elim (bus_of x == bus) as P [
      | true ↦ λ same. inr (subst Q (eqb-true (bus_of x) bus same) (leb-true _ _ parts.0))
      | false ↦ λ _. elim later as (λ _. (0 + rest ≡ 0) ⊎ (count bus ≤ most)) [ inl none ↦ inl (omega (arith, none)) | inr few ↦ inr few ]
    ]) refl

-- so few of them are on a bus, where all of them that are there are counted
pub few_on : {X : Type 0} (bus_of : X → ℕ) (count : ℕ → ℕ) (most bus : ℕ) (xs : List X) → list_all (λ x. nat_le (count (bus_of x)) most) xs ≡ true
    → on_bus bus_of bus xs ≤ count bus → on_bus bus_of bus xs ≤ most
few_on bus_of count most bus xs few counted =
    elim (none_or_few bus_of count most bus xs few) as (λ _. on_bus bus_of bus xs ≤ most) [
      | inl none ↦ omega (arith, none)
      | inr few ↦ omega (arith, few, counted)
    ]

-- On a bus of a board.

pub few_targets_on : (board : Board) (bus : ℕ) → AreFew board → on_bus (λ (target : Target). target.bus) bus board.targets ≤ most_agents
few_targets_on board bus few =
    let bus_of : Target → ℕ = λ target. target.bus in
    let counted : on_bus bus_of bus board.targets ≤ agents_on board bus = omega (arith, on_bus-count bus_of bus board.targets) in
    few_on bus_of (agents_on board) most_agents bus board.targets few.targets counted

pub few_masters_on : (board : Board) (bus : ℕ) → AreFew board → on_bus (λ (master : Master). master.bus) bus board.masters ≤ most_agents
few_masters_on board bus few =
    let bus_of : Master → ℕ = λ master. master.bus in
    let counted : on_bus bus_of bus board.masters ≤ agents_on board bus = omega (arith, on_bus-count bus_of bus board.masters) in
    few_on bus_of (agents_on board) most_agents bus board.masters few.masters counted

-- On the first so many buses.

abbrev on_first : {X : Type 0} → (X → ℕ) → ℕ → List X → ℕ
on_first bus_of zero xs = 0
on_first bus_of (suc n) xs = on_first bus_of n xs + on_bus bus_of n xs

on_first-none : {X : Type 0} (bus_of : X → ℕ) (n : ℕ) → on_first bus_of n [] ≡ 0
on_first-none bus_of zero = refl
on_first-none bus_of (suc n) = omega (arith, on_first-none bus_of n)

on_first-cons : {X : Type 0} (bus_of : X → ℕ) (n : ℕ) (x : X) (xs : List X) → on_first bus_of n (x ∷ xs) ≡ cond (nat_lt (bus_of x) n) 1 0 + on_first bus_of n xs
on_first-cons bus_of zero x xs = grind (arith, nat_tests)
on_first-cons bus_of (suc n) x xs = let before = on_first-cons bus_of n x xs in grind (arith, nat_tests)

on_first-all : {X : Type 0} (bus_of : X → ℕ) (n : ℕ) (xs : List X) → AllByRecursion (λ x. bus_of x < n) xs → on_first bus_of n xs ≡ length xs
on_first-all bus_of n [] all = on_first-none bus_of n
on_first-all bus_of n (x ∷ xs) all =
    let first = all.0 in
    let rest = on_first-all bus_of n xs all.1 in
    let cons = on_first-cons bus_of n x xs in
    grind (arith, nat_tests)

on_first-few : {X : Type 0} (bus_of : X → ℕ) (most n : ℕ) (xs : List X) → ((bus : ℕ) → on_bus bus_of bus xs ≤ most) → on_first bus_of n xs ≤ n * most
on_first-few bus_of most zero xs few = omega arith
on_first-few bus_of most (suc n) xs few = omega (arith, suc-mul n most, on_first-few bus_of most n xs few, few n)

on_bus-take : {X : Type 0} (bus_of : X → ℕ) (bus i : ℕ) (xs : List X) → on_bus bus_of bus (take i xs) ≤ on_bus bus_of bus xs
on_bus-take bus_of bus i xs =
    omega (arith, on_bus-count bus_of bus xs, on_bus-count bus_of bus (take i xs), sum_by-take-le (λ x. cond (bus_of x == bus) 1 0) xs i)

few_within : {X : Type 0} (bus_of : X → ℕ) (xs : List X) (most n i : ℕ) → ((bus : ℕ) → on_bus bus_of bus xs ≤ most) → i ≤ length xs →
    AllByRecursion (λ x. bus_of x < n) (take i xs) → i ≤ n * most
few_within bus_of xs most n i few within all =
    let front = take i xs in
    let first = on_first-few bus_of most n front (λ bus. omega (arith, on_bus-take bus_of bus i xs, few bus)) in
    omega (arith, first, on_first-all bus_of n front all, length-take-le i xs within)

-- a place before which all targets are on one of 256 buses
pub few_targets_before : (board : Board) (i : ℕ) → is_well_formed board ≡ true → i < length board.targets →
    AllByRecursion (λ (target : Target). target.bus < 256) (take i board.targets) → i ≤ 256 * most_agents
few_targets_before board i formed within all =
    let no_more : i ≤ length board.targets = omega arith in
    let few = (WellFormed-parts board formed).few in
    few_within (λ (target : Target). target.bus) board.targets most_agents 256 i (λ bus. few_targets_on board bus few) no_more all

-- the same of masters
pub few_masters_before : (board : Board) (i : ℕ) → is_well_formed board ≡ true → i < length board.masters →
    AllByRecursion (λ (master : Master). master.bus < 256) (take i board.masters) → i ≤ 256 * most_agents
few_masters_before board i formed within all =
    let no_more : i ≤ length board.masters = omega arith in
    let few = (WellFormed-parts board formed).few in
    few_within (λ (master : Master). master.bus) board.masters most_agents 256 i (λ bus. few_masters_on board bus few) no_more all

-- one more
pub target_more : (targets : List Target) (i : ℕ) (d : Target) → i < length targets →
    AllByRecursion (λ (target : Target). target.bus < 256) (take i targets) → (get_or targets i d).bus < 256 →
    AllByRecursion (λ (target : Target). target.bus < 256) (take (i + 1) targets)
target_more targets i d within all here =
    rw (take_more targets i d within) (Each-push (λ (target : Target). target.bus < 256) (take i targets) (get_or targets i d) all here)

pub master_more : (masters : List Master) (i : ℕ) (d : Master) → i < length masters →
    AllByRecursion (λ (master : Master). master.bus < 256) (take i masters) → (get_or masters i d).bus < 256 →
    AllByRecursion (λ (master : Master). master.bus < 256) (take (i + 1) masters)
master_more masters i d within all here =
    rw (take_more masters i d within) (Each-push (λ (master : Master). master.bus < 256) (take i masters) (get_or masters i d) all here)

-- On bus 0 and behind the bridges.

eqb-sym : (a b : ℕ) → eqb a b ≡ eqb b a
eqb-sym a b = grind (arith, nat_tests)

or-le : (a other b : Bool) → a ≡ other → one_if (a || b) ≤ one_if other + one_if b
or-le true true b same = omega arith
or-le true false b same = cc
or-le false true b same = cc
or-le false false b same = omega arith

-- behind so many bridges there are at most as many times what is on one bus
few_behind : {X : Type 0} (bus_of : X → ℕ) (most : ℕ) (bridges : List Bridge) (xs : List X) → ((bus : ℕ) → on_bus bus_of bus xs ≤ most)
    → total (λ x. one_if (list_any (has_bus (bus_of x)) bridges)) xs ≤ length bridges * most
few_behind {X} bus_of most [] xs few = omega (arith, total-zero (λ (x : X). 0) (λ _. refl) xs)
few_behind {X} bus_of most (bridge ∷ bridges) xs few =
    let here : X → ℕ = λ x. one_if (bus_of x == bridge.bus) in
    let later : X → ℕ = λ x. one_if (list_any (has_bus (bus_of x)) bridges) in
    let each : (x : X) → one_if ((bridge.bus == bus_of x) || list_any (has_bus (bus_of x)) bridges) ≤ here x + later x =
    λ x. or-le _ _ _ (eqb-sym bridge.bus (bus_of x)) in
    let sum = total-le (λ (x : X). one_if (list_any (has_bus (bus_of x)) (bridge ∷ bridges))) (λ x. here x + later x) each xs in
    omega
    (arith, sum, suc-mul (length bridges) most, total-plus here later (λ x. here x + later x) (λ _. refl) xs, few bridge.bus, few_behind bus_of most bridges xs few)

one_of : (a b : Bool) → not (a || b) ≡ false → 1 ≤ one_if a + one_if b
one_of true b none = omega arith
one_of false true none = omega arith
one_of false false none = cc

-- each is on bus 0 or behind a bridge
all_there : {X : Type 0} (bus_of : X → ℕ) (board : Board) (xs : List X) → list_any (λ x. not (is_bus board (bus_of x))) xs ≡ false
    → length xs ≤ on_bus bus_of 0 xs + total (λ x. one_if (list_any (has_bus (bus_of x)) board.bridges)) xs
all_there bus_of board [] none = omega arith
all_there bus_of board (x ∷ xs) none =
    let parts = or_parts (not (is_bus board (bus_of x))) (list_any (λ y. not (is_bus board (bus_of y))) xs) none in
    omega (arith, one_of (bus_of x == 0) (list_any (has_bus (bus_of x)) board.bridges) parts.0, all_there bus_of board xs parts.1)

few_by_bridges : {X : Type 0} (bus_of : X → ℕ) (board : Board) (most : ℕ) (xs : List X) → list_any (λ x. not (is_bus board (bus_of x))) xs ≡ false
    → ((bus : ℕ) → on_bus bus_of bus xs ≤ most) → length xs ≤ most + length board.bridges * most
few_by_bridges bus_of board most xs buses few =
    omega (arith, all_there bus_of board xs buses, few 0, few_behind bus_of most board.bridges xs few)

targets_there : (board : Board) → lacks_a_bus board ≡ false → list_any (λ (target : Target). not (is_bus board target.bus)) board.targets ≡ false
targets_there board buses = (or_parts _ _ (or_parts _ _ (or_parts _ _ (or_parts _ _ buses).0).0).0).1

-- a board whose buses are there has few targets
pub few_targets : (board : Board) → AreFew board → lacks_a_bus board ≡ false → length board.targets ≤ most_agents + length board.bridges * most_agents
few_targets board few buses =
    few_by_bridges (λ (target : Target). target.bus) board most_agents board.targets (targets_there board buses) (λ bus. few_targets_on board bus few)

masters_there : (board : Board) → lacks_a_bus board ≡ false → list_any (λ (master : Master). not (is_bus board master.bus)) board.masters ≡ false
masters_there board buses = (or_parts _ _ (or_parts _ _ (or_parts _ _ buses).0).0).1

-- and a valid board has few masters
pub few_masters : (board : Board) → IsValid board → length board.masters ≤ most_masters
few_masters board valid =
    let form = WellFormed-parts board valid.well_formed in
    let bus_of : Master → ℕ = λ master. master.bus in
    omega (arith, form.bridges_fit, few_by_bridges bus_of board most_agents board.masters (masters_there board valid.buses) (λ bus. few_masters_on board bus form.few))
