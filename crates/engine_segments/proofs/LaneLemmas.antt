-- The lanes that end on a bus of a valid board, its masters and its targets: each of them once, and no other.
use Rattle.std.proofs.Common.{◌≡◌, ◌≢◌, ℕ, zero, suc, ◌+◌, ◌<◌, ◌==◌, ◌&&◌, ◌||◌, Bool, true, false, List, [], ◌∷◌, ◌++◌, length, map, ◌⊎◌, inl, inr, Option, Some, None, refl, sym, ap, subst, ◌∙◌, arith, if◌then◌else◌, slice_get}
use Rattle.std.specs.List.{AllByRecursion, range_with_len}
use Rattle.std.proofs.lemmas.Bool.{and_parts, eqb-true, eq-eqb}
use Rattle.std.proofs.lemmas.Option.{slice_get_within}
use Rattle.list_facts.proofs.AnyLemmas.{any_some, find_any}
use Rattle.list_facts.proofs.EachLemmas.{Each-find}
use Rattle.list_facts.proofs.FindLemmas.{find_passes}
use Rattle.board_model.specs.declared.agents.Target.{Target}
use Rattle.board_model.specs.declared.bridge.Bridge.{Bridge}
use Rattle.board_model.specs.declared.bridge.Lane.{Lane as BridgeLane}
use Rattle.board_model.specs.declared.board.Board.{Board}
use Rattle.board_model.specs.Valid.{has_bridge_to, is_bus}
use Rattle.board_model.specs.Ways.{primary_in, primary_of, end_of}
use Rattle.board_model.specs.form_laws.Trees.{IsTree}
use Rattle.history_model.specs.Answers.{is_on, bridge_to}
use Rattle.bus_core.specs.Bus.{HasPlace, IsOf}
use Rattle.bus_core.proofs.ListLemmas.{get_map, map_get}
use Rattle.engine_segments.specs.First.{is_below, children_of, down_to, up_from, lanes_to, has_target, shape_on}
use Rattle.board_model.specs.Fits.{BridgeFits}
use Rattle.engine_segments.specs.Parts.{IsOfBridge}
use Rattle.engine_segments.proofs.NumberLemmas.{passing_rise, one_place, passes_at, passing_place, children_rise, child_place, child_below}

-- Of the lanes of a bus, its own or one from below.

-- how many own lanes there are
abbrev own_count : Bool → ℕ
own_count own = if own then 1 else 0

record IsOwn (own : Bool) (bus n : ℕ) (lane : BridgeLane) : Type 0 where
  there : own ≡ true
  first : n ≡ 0
  lane_is : lane ≡ down_to bus

record IsFromBelow (own : Bool) (children : List ℕ) (n : ℕ) (lane : BridgeLane) : Type 0 where
  place : ℕ
  child : ℕ
  there : slice_get children place ≡ Some child
  behind : n ≡ own_count own + place
  lane_is : lane ≡ up_from child

below_at : (own : Bool) (children : List ℕ) (n place : ℕ) (lane : BridgeLane) → n ≡ own_count own + place → slice_get (map up_from children) place ≡ Some lane → IsFromBelow own children n lane
below_at own children n place lane behind there =
    let found = map_get up_from children place lane there in
    record { place = place; child = found.0; there = found.1.0; behind = behind; lane_is = sym found.1.1 }

lane_at : (own : Bool) (bus : ℕ) (children : List ℕ) (n : ℕ) (lane : BridgeLane) → slice_get ((if own then down_to bus ∷ [] else []) ++ map up_from children) n ≡ Some lane
    → IsOwn own bus n lane ⊎ IsFromBelow own children n lane
lane_at true bus children zero lane there = let same : down_to bus ≡ lane = cc in inl (record { there = refl; first = refl; lane_is = sym same })
lane_at true bus children (suc n) lane there = inr (below_at true children (suc n) n lane (omega arith) there)
lane_at false bus children n lane there = inr (below_at false children n n lane (omega arith) there)

own_place : (own : Bool) (bus : ℕ) (children : List ℕ) → own ≡ true → HasPlace ((if own then down_to bus ∷ [] else []) ++ map up_from children) (down_to bus)
own_place true bus children there = (0, refl)
own_place false bus children there = cc

from_below_place : (own : Bool) (bus : ℕ) (children : List ℕ) (child : ℕ) → HasPlace children child → HasPlace ((if own then down_to bus ∷ [] else []) ++ map up_from children) (up_from child)
from_below_place true bus children child there = (suc there.0, get_map up_from children there.0 child there.1)
from_below_place false bus children child there = (there.0, get_map up_from children there.0 child there.1)

-- Of a valid board.

-- the bridge to a bus that has one hangs below a lesser number
bridge_falls : (board : Board) (bus : ℕ) → IsTree board → has_bridge_to board bus ≡ true → primary_of board bus < bus
bridge_falls board bus tree there =
    let found = any_some (λ (b : Bridge). b.bus == bus) board.bridges there in
    let number : found.0.bus ≡ bus = eqb-true found.0.bus bus (find_passes (λ (b : Bridge). b.bus == bus) board.bridges found.0 found.1) in
    let below : found.0.parent < found.0.bus = Each-find (λ (b : Bridge). b.parent < b.bus) (λ (b : Bridge). b.bus == bus) board.bridges found.0 tree.falls found.1 in
    let primary : primary_of board bus ≡ found.0.parent = ap primary_in found.1 in
    omega (arith, number, below, primary)

number_fits : (board : Board) (bus : ℕ) → AllByRecursion BridgeFits board.bridges → has_bridge_to board bus ≡ true → bus < 256
number_fits board bus fit there =
    let found = any_some (λ (b : Bridge). b.bus == bus) board.bridges there in
    let number : found.0.bus ≡ bus = eqb-true found.0.bus bus (find_passes (λ (b : Bridge). b.bus == bus) board.bridges found.0 found.1) in
    let below : found.0.bus < 256 = (Each-find BridgeFits (λ (b : Bridge). b.bus == bus) board.bridges found.0 fit found.1).bus in
    omega (arith, number, below)

pub bus_fits : (board : Board) (bus : ℕ) → AllByRecursion BridgeFits board.bridges → is_bus board bus ≡ true → bus < 256
bus_fits board bus fit there =
    let P : Bool → Type 0 = λ b. has_bridge_to board bus ≡ b → bus < 256 in
    (elim (has_bridge_to board bus) as P [
      | true ↦ λ has. number_fits board bus fit has
      | false ↦ λ has_not.
          let Q : Bool → Type 0 = λ b. (bus == 0) ≡ b → (b || has_bridge_to board bus) ≡ true → bus < 256 in
          (elim (bus == 0) as Q [ true ↦ λ zero_is _. let is = eqb-true bus 0 zero_is in omega (arith, is) | false ↦ λ _ other. let both : true ≡ false = sym other ∙ has_not in cc ]) refl there
    ]) refl

module _ (board : Board) (bus : ℕ) where
  abbrev Lanes : List BridgeLane
  Lanes = lanes_to board bus

  at : (n : ℕ) (lane : BridgeLane) → slice_get Lanes n ≡ Some lane → IsOwn (has_bridge_to board bus) bus n lane ⊎ IsFromBelow (has_bridge_to board bus) (children_of board bus) n lane
  at n lane there = lane_at (has_bridge_to board bus) bus (children_of board bus) n lane there

  child_has : (place child : ℕ) → slice_get (children_of board bus) place ≡ Some child → (has_bridge_to board child ≡ true) × (primary_of board child ≡ bus)
  child_has place child there =
      let parts = and_parts (has_bridge_to board child) (primary_of board child == bus) (child_below board bus place child there) in
      (parts.0, eqb-true (primary_of board child) bus parts.1)

  pub of_bridge_at : (n : ℕ) (lane : BridgeLane) → slice_get Lanes n ≡ Some lane → IsOfBridge board lane
  of_bridge_at n lane there =
      elim (at n lane there) as (λ _. has_bridge_to board lane.bus ≡ true) [
        | inl own ↦ ap (λ (l : BridgeLane). has_bridge_to board l.bus) own.lane_is ∙ own.there
        | inr below ↦ ap (λ (l : BridgeLane). has_bridge_to board l.bus) below.lane_is ∙ (child_has below.place below.child below.there).0
      ]

  pub ends_at : (n : ℕ) (lane : BridgeLane) → slice_get Lanes n ≡ Some lane → end_of board lane ≡ bus
  ends_at n lane there =
      elim (at n lane there) as (λ _. end_of board lane ≡ bus) [
        | inl own ↦ ap (end_of board) own.lane_is
        | inr below ↦ ap (end_of board) below.lane_is ∙ (child_has below.place below.child below.there).1
      ]

  module _ (tree : IsTree board) (fit : AllByRecursion BridgeFits board.bridges) where
    own_apart : (n m : ℕ) (a b : BridgeLane) → IsOwn (has_bridge_to board bus) bus n a → IsFromBelow (has_bridge_to board bus) (children_of board bus) m b → a.bus ≢ b.bus
    own_apart n m a b own below same =
        let has = child_has below.place below.child below.there in
        let falls = bridge_falls board below.child tree has.0 in
        let one : a.bus ≡ bus = ap (λ (l : BridgeLane). l.bus) own.lane_is in
        let two : b.bus ≡ below.child = ap (λ (l : BridgeLane). l.bus) below.lane_is in
        absurd (omega (arith, falls, has.1, one, two, same))

    lanes_apart : (n m : ℕ) (a b : BridgeLane) → slice_get Lanes n ≡ Some a → slice_get Lanes m ≡ Some b → n ≢ m → a.bus ≢ b.bus
    lanes_apart n m a b one two apart same =
        elim (at n a one) as (λ _. ⊥) [
          | inl own ↦ elim (at m b two) as (λ _. ⊥) [
            | inl other ↦ apart (own.first ∙ sym other.first)
            | inr below ↦ own_apart n m a b own below same
          ]
          | inr below ↦ elim (at m b two) as (λ _. ⊥) [
            | inl own ↦ own_apart m n b a own below (sym same)
            | inr other ↦
                let numbers : below.child ≡ other.child = ap (λ (l : BridgeLane). l.bus) (sym below.lane_is) ∙ (same ∙ ap (λ (l : BridgeLane). l.bus) other.lane_is) in
                let there : slice_get (children_of board bus) below.place ≡ Some other.child = below.there ∙ ap Some numbers in
                let places = one_place (children_of board bus) (children_rise board bus) below.place other.place other.child there other.there in
                apart (omega (arith, places, below.behind, other.behind))
          ]
        ]

    each_lane : (lane : BridgeLane) (bridge : Bridge) → bridge_to board lane.bus ≡ Some bridge → end_of board lane ≡ bus → HasPlace Lanes lane
    each_lane lane bridge is ends =
        let has : has_bridge_to board lane.bus ≡ true = find_any (λ (b : Bridge). b.bus == lane.bus) board.bridges bridge is in
        let P : Bool → Type 0 = λ up. end_of board (record { bus = lane.bus; up = up }) ≡ bus → HasPlace Lanes (record { bus = lane.bus; up = up }) in
        (elim lane.up as P [
          | true ↦ λ to.
              let below : is_below board bus lane.bus ≡ true = let one = eq-eqb (primary_of board lane.bus) bus to in ap (λ b. b && (primary_of board lane.bus == bus)) has ∙ one in
              from_below_place (has_bridge_to board bus) bus (children_of board bus) lane.bus (child_place board bus lane.bus (number_fits board lane.bus fit has) below)
          | false ↦ λ to.
              let own : has_bridge_to board bus ≡ true = ap (has_bridge_to board) (sym to) ∙ has in
              subst (λ n. HasPlace Lanes (down_to n)) (sym to) (own_place (has_bridge_to board bus) bus (children_of board bus) own)
        ]) ends

    -- an agent that is there has a place among those of the board
    within : {X : Type 0} (test : Option X → Bool) (xs : List X) (place : ℕ) → test None ≡ false → test (slice_get xs place) ≡ true → place < length xs
    within {X} test xs place none passes =
        let P : Option X → Type 0 = λ found. slice_get xs place ≡ found → test found ≡ true → place < length xs in
        (elim (slice_get xs place) as P [
          | None ↦ λ _ wrong. let both : true ≡ false = sym wrong ∙ none in cc
          | Some x ↦ λ is _. slice_get_within xs place x is
        ]) refl passes

    abbrev OnBus : ℕ → Bool
    OnBus master = is_on bus (slice_get board.masters master)

    abbrev HasTarget : ℕ → Bool
    HasTarget target = has_target bus (slice_get board.targets target)

    has_target_of : (target : ℕ) (agent : Target) → slice_get board.targets target ≡ Some agent → agent.bus ≡ bus → HasTarget target ≡ true
    has_target_of target agent is on = ap (has_target bus) is ∙ eq-eqb agent.bus bus on

    pub shape_is_of : IsOf board (shape_on board bus)
    shape_is_of = record {
      lanes_apart = lanes_apart;
      each_lane = each_lane;
      masters_apart = one_place _ (passing_rise OnBus (length board.masters));
      masters_on = λ n master there. passes_at OnBus (range_with_len 0 (length board.masters)) n master there;
      each_master = λ master on. passing_place OnBus (length board.masters) master (within (is_on bus) board.masters master refl on) on;
      targets_apart = one_place _ (passing_rise HasTarget (length board.targets));
      each_target = λ target agent is on.
          let has = has_target_of target agent is on in
          passing_place HasTarget (length board.targets) target (within (has_target bus) board.targets target refl has) has;
    }
