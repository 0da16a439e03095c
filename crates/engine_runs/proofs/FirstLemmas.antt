-- The workers before the first phase, and where the bridges of a board hang.
use Rattle.std.proofs.Common.{◌≡◌, ℕ, zero, suc, ◌+◌, ◌<◌, ◌==◌, ◌||◌, ◌&&◌, Bool, true, false, cond, List, [], ◌∷◌, ◌++◌, length, get_or, map, reverse, Option, Some, None, refl, sym, ap, subst, ◌∙◌, arith, slice_get}
use Rattle.std.specs.List.{position, position_from, range_with_len}
use Rattle.std.specs.Option.{IsSome}
use Rattle.std.specs.List.Sorted.{IsStrictlyIncreasing}
use Rattle.std.proofs.lemmas.Bool.{and_parts, eqb-true, eq-eqb}
use Rattle.std.proofs.lemmas.List.{length-map}
use Rattle.std.proofs.lemmas.List.Kept.{AllPairs-from_increasing}
use Rattle.std.proofs.lemmas.Iterator.Adapters.{position_from-zero}
use Rattle.std.proofs.lemmas.List.Quantifiers.{position-Some}
use Rattle.std.proofs.lemmas.Option.{slice_get_within, slice_get-get_or, get_or_from_slice_get}
use Rattle.list_facts.proofs.AnyLemmas.{any_some}
use Rattle.list_facts.proofs.EachLemmas.{Each-find, Each-slice_get}
use Rattle.list_facts.proofs.FindLemmas.{find_passes}
use Rattle.board_model.specs.declared.bridge.Bridge.{Bridge}
use Rattle.board_model.specs.declared.bridge.Lane.{Lane as BridgeLane}
use Rattle.board_model.specs.declared.board.Board.{Board}
use Rattle.board_model.specs.Valid.{has_bridge_to, is_bus, IsValid}
use Rattle.board_model.specs.Ways.{primary_in, primary_of}
use Rattle.board_model.proofs.form_laws.Laws.{IsTree-valid}
use Rattle.history_model.specs.Answers.{bridge_to}
use Rattle.law_local.proofs.phases.Laws.{end_is_bus}
use Rattle.lane_items.specs.declared.item.Item.{Item}
use Rattle.lane_items.specs.Lane.{IsEmptied}
use Rattle.bus_core.specs.port.Port.{PortView}
use Rattle.bus_core.specs.Bus.{Shape, shape_of, arrivals_at, HasPlace}
use Rattle.bus_core.proofs.Laws.{get_map, map_get}
use Rattle.bus_segment.specs.Stands.{WorkerView}
use Rattle.bus_segment.proofs.Laws.{there_at}
use Rattle.engine_segments.specs.First.{buses_of, down_to, up_from, children_of, own_lane, lanes_to, ends_alike, AreAtFirst}
use Rattle.engine_segments.proofs.NumberLemmas.{one_place, passes_at}
use Rattle.engine_segments.proofs.LaneLemmas.{of_bridge_at}
use Rattle.engine_phases.specs.Workers.{at_port, at_ports, back_at_ports, AreBetween}
use Rattle.engine_phases.specs.Phase.{AreApart}
use Rattle.engine_phases.proofs.Laws.{same_there, stands_at_ports}
use Rattle.engine_runs.specs.declared.settling.Above.{Above}
use Rattle.engine_runs.specs.First.{IsAboveOf, AreAboveOf, AreLinked}
use Rattle.engine_runs.specs.Loop.{AreReady}
use Rattle.engine_runs.specs.Settling.{AreAbove, HangBelow}
use Rattle.engine_runs.specs.Steady.{IsSteady}

-- the bridges to the first so many buses behind bus 0
pub record AreAboveSoFar (board : Board) (above : List Above) : Type 0 where
  pub each : (k : ℕ) (up : Above) → slice_get above k ≡ Some up → IsAboveOf board (k + 1) up

pub above_none : (board : Board) → AreAboveSoFar board []
above_none board = record { each = λ k up here. cc }

-- of one more at the end
at_end : (P : ℕ → Above → Type 0) (xs : List Above) (x : Above) → ((k : ℕ) (y : Above) → slice_get xs k ≡ Some y → P k y) → P (length xs) x → (k : ℕ) (y : Above) → slice_get (xs ++ x ∷ []) k ≡ Some y → P k y
at_end P [] x each last zero y here = let same : x ≡ y = cc in subst (P 0) same last
at_end P [] x each last (suc k) y here = cc
at_end P (z ∷ xs) x each last zero y here = each 0 y here
at_end P (z ∷ xs) x each last (suc k) y here = at_end (λ n u. P (suc n) u) xs x (λ n u there. each (suc n) u there) last k y here

pub above_more : (board : Board) (above : List Above) (up : Above) → AreAboveSoFar board above → IsAboveOf board (length above + 1) up → AreAboveSoFar board (above ++ up ∷ [])
above_more board above up so_far is = record { each = at_end (λ (n : ℕ) (u : Above). IsAboveOf board (n + 1) u) above up so_far.each is }

-- What is looked for is found.

found_at : {X : Type 0} (p : X → Bool) (xs : List X) (k : ℕ) → position p xs ≡ Some k → (x : X) × ((slice_get xs k ≡ Some x) × (p x ≡ true))
found_at {X} p [] k is = cc
found_at {X} p (x ∷ xs) k is =
    let at = position-Some p (x ∷ xs) k x is in
    (get_or (x ∷ xs) k x, (slice_get-get_or (x ∷ xs) k x at.0, at.1))

none_from : {X : Type 0} (p : X → Bool) (i : ℕ) (xs : List X) → position_from p i xs ≡ None → (n : ℕ) (x : X) → slice_get xs n ≡ Some x → p x ≡ false
none_from p i [] is n x there = cc
none_from {X} p i (y ∷ ys) is zero x there =
    let same : y ≡ x = cc in
    let P : Bool → Type 0 = λ b. cond b (Some i) (position_from p (i + 1) ys) ≡ None → b ≡ false in
    subst (λ z. p z ≡ false) same ((elim (p y) as P [ true ↦ λ e. cc | false ↦ λ _. refl ]) is)
none_from {X} p i (y ∷ ys) is (suc n) x there =
    let P : Bool → Type 0 = λ b. cond b (Some i) (position_from p (i + 1) ys) ≡ None → position_from p (i + 1) ys ≡ None in
    none_from p (i + 1) ys ((elim (p y) as P [ true ↦ λ e. cc | false ↦ λ e. e ]) is) n x there

none_at : {X : Type 0} (p : X → Bool) (xs : List X) → position p xs ≡ None → (n : ℕ) (x : X) → slice_get xs n ≡ Some x → p x ≡ false
none_at p xs is n x there = none_from p 0 xs (sym (position_from-zero p xs) ∙ is) n x there

pub bus_found : (buses : List ℕ) (bus : ℕ) (found : Option ℕ) → HasPlace buses bus → found ≡ position (λ (other : ℕ). other == bus) buses → IsSome found
bus_found buses bus None has is = let wrong : false ≡ true = sym (none_at (λ (other : ℕ). other == bus) buses (sym is) has.0 bus has.1) ∙ eq-eqb bus bus refl in cc
bus_found buses bus (Some k) has is = refl

pub bus_there : (buses : List ℕ) (bus k : ℕ) (found : Option ℕ) → found ≡ position (λ (other : ℕ). other == bus) buses → found ≡ Some k → slice_get buses k ≡ Some bus
bus_there buses bus k found is some =
    let at = found_at (λ (other : ℕ). other == bus) buses k (sym is ∙ some) in
    at.1.0 ∙ ap (λ (b : ℕ). Some b) (eqb-true at.0 bus at.1.1)

abbrev IsUp : ℕ → BridgeLane → Bool
IsUp bus lane = lane.up && lane.bus == bus

pub lane_found : (lanes : List BridgeLane) (bus : ℕ) (found : Option ℕ) → HasPlace lanes (up_from bus) → found ≡ position (IsUp bus) lanes → IsSome found
lane_found lanes bus None has is = let wrong : false ≡ true = sym (none_at (IsUp bus) lanes (sym is) has.0 (up_from bus) has.1) ∙ eq-eqb bus bus refl in cc
lane_found lanes bus (Some k) has is = refl

pub lane_there : (lanes : List BridgeLane) (bus k : ℕ) (found : Option ℕ) → found ≡ position (IsUp bus) lanes → found ≡ Some k → slice_get lanes k ≡ Some (up_from bus)
lane_there lanes bus k found is some =
    let at = found_at (IsUp bus) lanes k (sym is ∙ some) in
    let parts = and_parts at.0.up (at.0.bus == bus) at.1.1 in
    let Rebuilt : ℕ → Bool → Option BridgeLane = λ n u. Some (record { bus = n; up = u }) in
    at.1.0 ∙ (ap (λ n. Rebuilt n at.0.up) (eqb-true at.0.bus bus parts.1) ∙ ap (Rebuilt bus) parts.0)

pub above_is : (board : Board) (linked : AreLinked board) (place bus : ℕ) (up : Above) → 0 < place → slice_get (buses_of board) place ≡ Some bus → slice_get (buses_of board) up.worker ≡ Some (primary_of board bus)
    → slice_get (lanes_to board (primary_of board bus)) up.port ≡ Some (up_from bus) → IsAboveOf board place up
above_is board linked zero bus up some here worker port = absurd (omega (arith, some))
above_is board linked (suc k) bus up some here worker port =
    let next : k + 1 ≡ suc k = omega arith in
    let there : slice_get (buses_of board) (k + 1) ≡ Some bus = ap (slice_get (buses_of board)) next ∙ here in
    let before = linked.earlier k up.worker bus there worker in
    record { bus = bus; bus_is = here; earlier = omega (arith, before); primary = worker; up = port }

pub linked_at : (board : Board) (linked : AreLinked board) (place bus : ℕ) → 0 < place → slice_get (buses_of board) place ≡ Some bus → HasPlace (buses_of board) (primary_of board bus) × HasPlace (lanes_to board (primary_of board bus)) (up_from bus)
linked_at board linked zero bus some here = absurd (omega (arith, some))
linked_at board linked (suc k) bus some here =
    let next : k + 1 ≡ suc k = omega arith in
    let there : slice_get (buses_of board) (k + 1) ≡ Some bus = ap (slice_get (buses_of board)) next ∙ here in
    (linked.primary k bus there, linked.up k bus there)

-- Buses.

-- a number at a later place is greater
later_above : (xs : List ℕ) → IsStrictlyIncreasing xs → (i j a b : ℕ) → slice_get xs i ≡ Some a → slice_get xs j ≡ Some b → i < j → a < b
later_above xs rise i j a b one two before =
    let pairs = AllPairs-from_increasing xs rise i j 0 before (slice_get_within xs j b two) in
    omega (arith, pairs, get_or_from_slice_get xs i a 0 one, get_or_from_slice_get xs j b 0 two)

bus_is : (board : Board) (k bus : ℕ) → slice_get (buses_of board) k ≡ Some bus → is_bus board bus ≡ true
unfolding buses_of
bus_is board k bus here = passes_at (is_bus board) (range_with_len 0 256) k bus here

-- a bus that has a bridge, and its primary bus
record Bridged (board : Board) (bus : ℕ) : Type 0 where
  bridge : Bridge
  is : bridge_to board bus ≡ Some bridge
  falls : primary_of board bus < bus

bridged : (board : Board) (bus : ℕ) → IsValid board → has_bridge_to board bus ≡ true → Bridged board bus
bridged board bus valid has =
    let found = any_some (λ (b : Bridge). b.bus == bus) board.bridges has in
    let number : found.0.bus ≡ bus = eqb-true found.0.bus bus (find_passes (λ (b : Bridge). b.bus == bus) board.bridges found.0 found.1) in
    let below : found.0.parent < found.0.bus = Each-find (λ (b : Bridge). b.parent < b.bus) (λ (b : Bridge). b.bus == bus) board.bridges found.0 (IsTree-valid board valid).falls found.1 in
    let primary : primary_of board bus ≡ found.0.parent = ap primary_in found.1 in
    record { bridge = found.0; is = found.1; falls = omega (arith, number, below, primary) }

-- a bus of the board that is not bus 0 has one
other_bridged : (board : Board) (bus : ℕ) → is_bus board bus ≡ true → 0 < bus → has_bridge_to board bus ≡ true
other_bridged board bus there above =
    let P : Bool → Type 0 = λ b. (bus == 0) ≡ b → (b || has_bridge_to board bus) ≡ true → has_bridge_to board bus ≡ true in
    (elim (bus == 0) as P [
      | true ↦ λ zero_is _. let is = eqb-true bus 0 zero_is in absurd (omega (arith, is, above))
      | false ↦ λ _ has. has
    ]) refl there

module _ {End : Type 0} (board : Board) (valid : IsValid board) (ends : List (List End)) (workers : List (WorkerView End)) (first : AreAtFirst board ends workers) where
  -- the bus of a worker stands at its place
  bus_at : (k : ℕ) (w : WorkerView End) → slice_get workers k ≡ Some w → slice_get (buses_of board) k ≡ Some w.segment.bus.bus
  bus_at k w here = ap (λ (l : List ℕ). slice_get l k) (sym first.buses) ∙ get_map (λ (s : WorkerView End). s.segment.bus.bus) workers k w here

  worker_at : (k bus : ℕ) → slice_get (buses_of board) k ≡ Some bus → (w : WorkerView End) × (slice_get workers k ≡ Some w) × (w.segment.bus.bus ≡ bus)
  worker_at k bus here =
      let found = map_get (λ (s : WorkerView End). s.segment.bus.bus) workers k bus (ap (λ (l : List ℕ). slice_get l k) first.buses ∙ here) in
      (found.0, found.1.0, found.1.1)

  -- bus 0 is the first
  first_bus : (bus : ℕ) → slice_get (buses_of board) 0 ≡ Some bus → bus ≡ 0
  first_bus bus here =
      let place = first.each_bus 0 refl in
      let none : 0 < place.0 → ⊥ = λ above. let wrong = later_above (buses_of board) first.rise 0 place.0 bus 0 here place.1 above in omega (arith, wrong) in
      let same : place.0 ≡ 0 = omega (arith, none) in
      let there : slice_get (buses_of board) 0 ≡ Some 0 = ap (slice_get (buses_of board)) (sym same) ∙ place.1 in
      same_there (buses_of board) 0 bus 0 here there

  above_zero : (k bus : ℕ) → slice_get (buses_of board) (k + 1) ≡ Some bus → 0 < bus
  above_zero k bus here =
      let place = first.each_bus 0 refl in
      let zero_at : slice_get (buses_of board) 0 ≡ Some 0 =
      (let none : 0 < place.0 → ⊥ = λ above. no_less place.0 above place.1 in let same : place.0 ≡ 0 = omega (arith, none) in ap (slice_get (buses_of board)) (sym same) ∙ place.1) in
      later_above (buses_of board) first.rise 0 (k + 1) 0 bus zero_at here (omega arith)
    where
      no_less : (m : ℕ) → 0 < m → slice_get (buses_of board) m ≡ Some 0 → ⊥
      no_less m above at =
          let within = slice_get_within (buses_of board) m 0 at in
          let head = there_at (buses_of board) 0 (omega (arith, above, within)) in
          let wrong = later_above (buses_of board) first.rise 0 m head.0 0 head.1 at above in
          omega (arith, wrong)

  has_own : (k bus : ℕ) → slice_get (buses_of board) (k + 1) ≡ Some bus → has_bridge_to board bus ≡ true
  has_own k bus here = other_bridged board bus (bus_is board (k + 1) bus here) (above_zero k bus here)

  -- the lanes of a worker
  lanes_are : (k : ℕ) (w : WorkerView End) → slice_get workers k ≡ Some w → (shape_of w.segment.bus).lanes ≡ lanes_to board w.segment.bus.bus
  lanes_are k w here = ap (λ (s : Shape). s.lanes) (first.each k w here).shape

  of_bridge : (k : ℕ) (w : WorkerView End) (n : ℕ) (lane : BridgeLane) → slice_get workers k ≡ Some w → slice_get (shape_of w.segment.bus).lanes n ≡ Some lane → has_bridge_to board lane.bus ≡ true
  of_bridge k w n lane here at = of_bridge_at board w.segment.bus.bus n lane (ap (λ (l : List BridgeLane). slice_get l n) (sym (lanes_are k w here)) ∙ at)

  -- the primary bus is before
  pub linked : AreLinked board
  linked = record {
    some = let place = first.each_bus 0 refl in let within = slice_get_within (buses_of board) place.0 0 place.1 in omega (arith, within);
    primary = λ k bus here.
        let own = bridged board bus valid (has_own k bus here) in
        first.each_bus (primary_of board bus) (end_is_bus board valid.buses (up_from bus) own.bridge own.is);
    earlier = λ k j bus here there.
        let own = bridged board bus valid (has_own k bus here) in
        let falls = own.falls in
        let not_later : k + 1 < j → ⊥ = λ after. let wrong = later_above (buses_of board) first.rise (k + 1) j bus (primary_of board bus) here there after in omega (arith, wrong, falls) in
        let not_same : k + 1 ≡ j → ⊥ = λ same.
        let one = same_there (buses_of board) j bus (primary_of board bus) (ap (slice_get (buses_of board)) (sym same) ∙ here) there in omega (arith, one, falls) in
        omega (arith, not_later, not_same);
    up = λ k bus here.
        let own = bridged board bus valid (has_own k bus here) in
        let place = first.each_bus (primary_of board bus) (end_is_bus board valid.buses (up_from bus) own.bridge own.is) in
        let w = worker_at place.0 (primary_of board bus) place.1 in
        let at = (first.each place.0 w.0 w.1).is_of.each_lane (up_from bus) own.bridge own.is (sym w.2) in
        (at.0, ap (λ (l : List BridgeLane). slice_get l at.0) (sym (lanes_are place.0 w.0 w.1 ∙ ap (lanes_to board) w.2)) ∙ at.1);
  }

  -- where the bridges hang, among the workers
  pub above_first : (above : List Above) → AreAboveOf board above → AreAbove workers above
  above_first above are = record {
    each = λ k up here.
        let is = are.each k up here in
        let upper = worker_at up.worker (primary_of board is.bus) is.primary in
        let lower = worker_at (k + 1) is.bus is.bus_is in
        let own : own_lane board is.bus ≡ down_to is.bus ∷ [] = ap (λ (b : Bool). cond b (down_to is.bus ∷ []) []) (has_own k is.bus is.bus_is) in
        let down : slice_get (lanes_to board is.bus) 0 ≡ Some (down_to is.bus) = ap (λ (l : List BridgeLane). slice_get (l ++ map up_from (children_of board is.bus)) 0) own in
        record {
          earlier = is.earlier;
          upper = upper.0;
          lower = lower.0;
          upper_is = upper.1;
          lower_is = lower.1;
          up = ap (λ (l : List BridgeLane). slice_get l up.port) (lanes_are up.worker upper.0 upper.1 ∙ ap (lanes_to board) upper.2) ∙ (is.up ∙ ap (λ b. Some (up_from b)) (sym lower.2));
          down = ap (λ (l : List BridgeLane). slice_get l 0) (lanes_are (k + 1) lower.0 lower.1 ∙ ap (lanes_to board) lower.2) ∙ (down ∙ ap (λ b. Some (down_to b)) (sym lower.2));
        };
    many = sym (length-map workers (λ (s : WorkerView End). s.segment.bus.bus)) ∙ (ap length first.buses ∙ are.many);
  }

  pub hang_first : HangBelow workers
  hang_first = record {
    below = λ k w n lane here at.
        let own = bridged board lane.bus valid (of_bridge k w n lane here at) in
        let falls = own.falls in
        let place = first.each_bus lane.bus (end_is_bus board valid.buses (down_to lane.bus) own.bridge own.is) in
        later_place place.0 lane.bus place.1 (omega (arith, falls));
  }
    where
      later_place : (j bus : ℕ) → slice_get (buses_of board) j ≡ Some bus → 0 < bus → (m : ℕ) × (v : WorkerView End) × (slice_get workers (m + 1) ≡ Some v) × (bus ≡ v.segment.bus.bus)
      later_place zero bus here above = let none = first_bus bus here in absurd (omega (arith, none, above))
      later_place (suc j) bus here above =
          let next : suc j ≡ j + 1 = omega arith in
          let found = worker_at (j + 1) bus (ap (slice_get (buses_of board)) (sym next) ∙ here) in
          (j, found.0, found.1, sym found.2)

  -- no item, no event
  abbrev Nothing : BridgeLane → List Item
  Nothing lane = []

  pub apart_first : AreApart board workers
  apart_first = record {
    apart = λ k m w v here there same. one_place (buses_of board) first.rise k m v.segment.bus.bus (bus_at k w here ∙ ap Some same) (bus_at m v there);
    there = λ k w here. bus_is board k w.segment.bus.bus (bus_at k w here);
    bridges = λ k w n lane here at. let own = bridged board lane.bus valid (of_bridge k w n lane here at) in (own.bridge, own.is);
    one_a_port = λ k w here. (first.each k w here).one_a_port ∙ sym (length-map w.segment.bus.ports (λ (p : PortView). p.lane));
  }

  pub ready_first : AreReady workers
  ready_first = record {
    each = λ k w here.
        let is = first.each k w here in
        record {
          going = is.going;
          one_a_port = is.one_a_port;
          few_ports = is.few_ports;
          few_masters = is.few_masters;
          counts = record {
            up_to = λ n count at. let none : count ≡ 0 = Each-slice_get (λ (c : ℕ). c ≡ 0) (arrivals_at w.segment.bus) n count is.no_arrivals at in omega (arith, none);
          };
        };
  }

  -- ends that are all alike
  pub all_alike : (fresh : End) → ends ≡ ends_alike board fresh → (k : ℕ) (w : WorkerView End) (n : ℕ) (end : End) → slice_get workers k ≡ Some w → slice_get w.ends n ≡ Some end → end ≡ fresh
  all_alike fresh alike k w n end here at =
      let mine : slice_get (ends_alike board fresh) k ≡ Some w.ends =
      ap (λ (l : List (List End)). slice_get l k) (sym alike) ∙ (ap (λ (l : List (List End)). slice_get l k) (sym first.ends_are) ∙ get_map (λ (s : WorkerView End). s.ends) workers k w here) in
      let found = map_get (λ (bus : ℕ). map (λ (lane : BridgeLane). fresh) (lanes_to board bus)) (buses_of board) k w.ends mine in
      let one = map_get (λ (lane : BridgeLane). fresh) (lanes_to board found.0) n end (ap (λ (l : List End). slice_get l n) found.1.1 ∙ at) in
      sym one.1.1

  -- with ends that have nothing in hand and nothing sent
  module _ (had sent got : End → List Item) (kept : End → ℕ) (paired : End → End → Type 0) (fresh : End) (no_hand : had fresh ≡ []) (emptied : IsEmptied (sent fresh) (got fresh) (kept fresh)) (pairs : paired fresh fresh) (are : (k : ℕ) (w : WorkerView End) (n : ℕ) (end : End) → slice_get workers k ≡ Some w → slice_get w.ends n ≡ Some end → end ≡ fresh) where
    between_first : AreBetween had sent got kept paired board workers Nothing Nothing (λ bus. [])
    between_first = record {
      are_workers = record {
        of_board = λ k w here. (first.each k w here).is_of;
        ends_there = λ k w n lane here at. (first.each k w here).ends_there n lane at;
        each_bus = λ bus there. let place = first.each_bus bus there in let found = worker_at place.0 bus place.1 in (place.0, found.0, found.1, found.2);
      };
      going = λ k w here. (first.each k w here).going;
      recorded = λ k w here. ap reverse (sym (first.each k w here).no_events);
      stands = λ k w here.
          stands_at_ports board w.segment [] (λ n. []) (at_ports w Nothing) (λ n. []) (back_at_ports w (λ lane. [] ++ []))
          (λ n lane at. sym (ap (at_port Nothing) at)) (λ n lane at. sym (ap (at_port (λ l. [] ++ [])) at)) (first.each k w here).stands;
      emptied = λ k w lane end here at. let same = are k w at.port end here at.end_is in subst (λ (e : End). IsEmptied (sent e) (got e) (kept e)) (sym same) emptied;
      in_hand = λ k w lane end here at. ap had (are k w at.port end here at.end_is) ∙ no_hand;
      pairs = λ k m w v lane end other here there at back.
          let one = are k w at.port end here at.end_is in
          let two = are m v back.port other there back.end_is in
          subst (λ (e : End). paired e other) (sym one) (subst (λ (e : End). paired fresh e) (sym two) pairs);
      no_other = λ bus lacks. refl;
      received_there = λ lane missing. refl;
      hand_there = λ lane missing. refl;
    }

    pub steady_first : (other : Board) (others : List (WorkerView End)) (above more : List Above) → other ≡ board → others ≡ workers → more ≡ above → AreAboveOf board above → IsSteady had sent got kept paired other others more 0
    steady_first other others above more same_board same_workers same_above hangs =
        let P : Board → List (WorkerView End) → List Above → Type 0 = λ b w a. IsSteady had sent got kept paired b w a 0 in
        let steady : P board workers above = record {
          after = record {
            received = Nothing;
            hand = Nothing;
            part = λ bus. [];
            between = between_first;
            apart = apart_first;
            stamps = λ k w here. let zero_is = (first.each k w here).stamp in omega (arith, zero_is);
            hand_stamps = λ lane. tt;
            many = omega arith;
          };
          ready = ready_first;
          hang = hang_first;
          linked = above_first above hangs;
        } in
        subst (λ b. P b others more) (sym same_board) (subst (λ w. P board w more) (sym same_workers) (subst (P board workers) (sym same_above) steady))
