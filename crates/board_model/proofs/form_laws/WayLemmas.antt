-- A way goes up, then down, and takes no bridge twice.
use Rattle.std.proofs.Common.{◌≡◌, ℕ, zero, suc, ◌<◌, ◌≤◌, Bool, true, false, cond, eqb, ◌||◌, List, [], ◌∷◌, length, slice_index_or, AllPairs, Some, refl, sym, ap, subst, ◌∙◌, ◌⊎◌, inl, inr, ⊎_elim, arith, eqb-true}
use Rattle.std.specs.List.{find, list_any, AllByRecursion, IsDistinct}
use Rattle.std.proofs.lemmas.Bool.Decides.{nat_tests}
use Rattle.std.proofs.lemmas.Map.Keys.{IsDistinct-cons}
use Rattle.list_facts.proofs.FindLemmas.{find_passes}
use Rattle.list_facts.proofs.EachLemmas.{Each-find, Each-weaker, Each-all}
use Rattle.board_model.specs.declared.bridge.Bridge.{Bridge}
use Rattle.board_model.specs.declared.bridge.Lane.{Lane as BridgeLane}
use Rattle.board_model.specs.declared.bridge.Place.{Place}
use Rattle.board_model.specs.declared.bridge.Place.TheVariants.{Target, Header, Lane, Nobody}
use Rattle.board_model.specs.declared.op.Op.{Op}
use Rattle.board_model.specs.declared.board.Board.{Board}
use Rattle.board_model.specs.Requests.{request_on}
use Rattle.board_model.specs.Claims.{claim}
use Rattle.board_model.specs.Ways.{primary_in, end_of, Route, route_by, route_within}
use Rattle.board_model.specs.WellFormed.{has_bus}
use Rattle.board_model.specs.Valid.{has_bridge_to}
use Rattle.board_model.specs.form_laws.Trees.{IsTree}
use Rattle.board_model.specs.form_laws.WayEnds.{same_bridge}
use Rattle.board_model.proofs.form_laws.StepLemmas.{own_of, stays, Up, Down, steps}

-- a bridge that is found by a number has it
pub number_of : (board : Board) (bus : ℕ) (own : Bridge) → own_of board bus ≡ Some own → own.bus ≡ bus
number_of board bus own is = eqb-true own.bus bus (find_passes (has_bus bus) board.bridges own is)

-- and is there
there_from : (test : Bridge → Bool) (bridges : List Bridge) (own : Bridge) → find test bridges ≡ Some own → list_any test bridges ≡ true
there_from test [] own is = cc
there_from test (b ∷ bridges) own is =
    let P : Bool → Type 0 = λ passes. cond passes (Some b) (find test bridges) ≡ Some own → (passes || list_any test bridges) ≡ true in
    (elim (test b) as P [ true ↦ λ e. refl | false ↦ λ e. there_from test bridges own e ]) is

-- the end of a lane up
pub end_up : (board : Board) (op : Op) (on : ℕ) (lane : BridgeLane) (goes : Up board op on lane) → end_of board lane ≡ goes.own.parent
end_up board op on lane goes = ap (end_of board) goes.is ∙ ap primary_in goes.is_own

pub end_down : (board : Board) (op : Op) (on : ℕ) (lane : BridgeLane) (goes : Down board op on lane) → end_of board lane ≡ lane.bus
end_down board op on lane goes = ap (end_of board) goes.is

pub up-below : (board : Board) (op : Op) (on : ℕ) (lane : BridgeLane) → IsTree board → Up board op on lane → end_of board lane < on
up-below board op on lane tree goes =
    let falls : goes.own.parent < goes.own.bus = Each-find (λ (bridge : Bridge). bridge.parent < bridge.bus) (has_bus on) board.bridges goes.own tree.falls goes.is_own in
    omega (arith, end_up board op on lane goes, number_of board on goes.own goes.is_own)

pub down-above : (board : Board) (op : Op) (on : ℕ) (lane : BridgeLane) → IsTree board → Down board op on lane → on < lane.bus
down-above board op on lane tree goes =
    let falls : goes.child.parent < goes.child.bus = Each-find (λ (bridge : Bridge). bridge.parent < bridge.bus) (has_bus lane.bus) board.bridges goes.child tree.falls goes.is_child in
    omega (arith, goes.parent, number_of board lane.bus goes.child goes.is_child)

-- what holds of each holds at each place
each_at : {X : Type 0} (P : X → Type 0) (xs : List X) (j : ℕ) (d : X) → AllByRecursion P xs → j < length xs → P (slice_index_or xs j d)
each_at P [] j d each within = absurd (omega arith)
each_at P (x ∷ xs) zero d each within = each.0
each_at P (x ∷ xs) (suc j) d each within = each_at P xs j d each.1 (omega arith)

-- pairs of a list, by recursion
all_pairs_cons : {X : Type 0} (R : X → X → Type 0) (x : X) (xs : List X) → AllByRecursion (R x) xs → AllPairs R xs → AllPairs R (x ∷ xs)
all_pairs_cons R x xs first later zero zero d below within = absurd (omega arith)
all_pairs_cons R x xs first later zero (suc j) d below within = each_at (R x) xs j d first (omega arith)
all_pairs_cons R x xs first later (suc i) zero d below within = absurd (omega arith)
all_pairs_cons R x xs first later (suc i) (suc j) d below within = later i j d (omega arith) (omega arith)

-- two numbers that a test tells apart differ
differ : (test : ℕ → Bool) (a b : ℕ) → test a ≡ false → test b ≡ true → eqb a b ≡ false
differ test a b fails passes =
    let P : Bool → Type 0 = λ same. eqb a b ≡ same → same ≡ false in
    (elim (eqb a b) as P [ true ↦ λ e. let same : a ≡ b = eqb-true a b e in cc | false ↦ λ e. refl ]) refl

-- what holds of the lanes of a way from a bus
pub record Trail (board : Board) (op : Op) (on : ℕ) (lanes : List BridgeLane) : Type 0 where
  -- where nothing goes up from the bus, each is down and further down
  pub goes_down : stays board op on ≡ true → AllByRecursion (λ (lane : BridgeLane). (on < lane.bus) × (stays board op lane.bus ≡ true) × (lane.up ≡ false)) lanes
  -- each is no further down, or one from whose bus nothing goes up
  pub goes : AllByRecursion (λ (lane : BridgeLane). (lane.bus ≤ on) ⊎ (stays board op lane.bus ≡ true)) lanes
  pub apart : IsDistinct same_bridge lanes
  pub of_bridges : AllByRecursion (λ (lane : BridgeLane). has_bridge_to board lane.bus ≡ true) lanes
  pub ordered : AllPairs (λ (lane later : BridgeLane). later.up ≡ true → lane.up ≡ true) lanes

module _ (board : Board) (op : Op) (tree : IsTree board) where
  trail_up : (on : ℕ) (lane : BridgeLane) (rest : List BridgeLane) → Up board op on lane → Trail board op (end_of board lane) rest → Trail board op on (lane ∷ rest)
  trail_up on lane rest up old =
      let leaves : stays board op on ≡ false = up.leaves in
      let bus : lane.bus ≡ on = ap (λ l. l.bus) up.is in
      let upwards : lane.up ≡ true = ap (λ l. l.up) up.is in
      let below : end_of board lane < on = up-below board op on lane tree up in
      let Old : BridgeLane → Type 0 = λ l. (l.bus ≤ end_of board lane) ⊎ (stays board op l.bus ≡ true) in
      let New : BridgeLane → Type 0 = λ l. (l.bus ≤ on) ⊎ (stays board op l.bus ≡ true) in
      let Apart : BridgeLane → Type 0 = λ l. same_bridge lane l ≡ false in
      let weaker : (l : BridgeLane) → Old l → New l = λ l. ⊎_elim {C = New l} (λ at. inl (omega arith)) (λ in_windows. inr in_windows) in
      let differs : (l : BridgeLane) → Old l → Apart l =
      λ l. ⊎_elim {C = Apart l} (λ at. grind (arith, nat_tests)) (λ in_windows. rw bus (differ (stays board op) on l.bus leaves in_windows)) in
      let R : BridgeLane → BridgeLane → Type 0 = λ a later. later.up ≡ true → a.up ≡ true in
      record {
        goes_down = λ none. cc;
        goes = (inl (omega arith), Each-weaker Old New weaker rest old.goes);
        apart = IsDistinct-cons same_bridge lane rest (Each-weaker Old Apart differs rest old.goes) old.apart;
        of_bridges = (subst (λ n. has_bridge_to board n ≡ true) (sym bus) (there_from (has_bus on) board.bridges up.own up.is_own), old.of_bridges);
        ordered = all_pairs_cons R lane rest (Each-all (R lane) (λ later _. upwards) rest) old.ordered;
      }

  trail_down : (on : ℕ) (lane : BridgeLane) (rest : List BridgeLane) → Down board op on lane → Trail board op lane.bus rest → Trail board op on (lane ∷ rest)
  trail_down on lane rest down old =
      let above : on < lane.bus = down-above board op on lane tree down in
      let downwards : lane.up ≡ false = ap (λ l. l.up) down.is in
      let Old : BridgeLane → Type 0 = λ l. (lane.bus < l.bus) × (stays board op l.bus ≡ true) × (l.up ≡ false) in
      let New : BridgeLane → Type 0 = λ l. (on < l.bus) × (stays board op l.bus ≡ true) × (l.up ≡ false) in
      let further : AllByRecursion Old rest = old.goes_down down.inside in
      let Goes : BridgeLane → Type 0 = λ l. (l.bus ≤ on) ⊎ (stays board op l.bus ≡ true) in
      let Apart : BridgeLane → Type 0 = λ l. same_bridge lane l ≡ false in
      let R : BridgeLane → BridgeLane → Type 0 = λ a later. later.up ≡ true → a.up ≡ true in
      record {
        goes_down = λ none. ((above, down.inside, downwards), Each-weaker Old New (λ l at. (omega arith, at.1, at.2)) rest further);
        goes = (inr down.inside, Each-weaker Old Goes (λ l at. inr at.1) rest further);
        apart = IsDistinct-cons same_bridge lane rest (Each-weaker Old Apart (λ l at. let below : lane.bus < l.bus = at.0 in grind (arith, nat_tests)) rest further) old.apart;
        of_bridges = (there_from (has_bus lane.bus) board.bridges down.child down.is_child, old.of_bridges);
        ordered = all_pairs_cons R lane rest (Each-weaker Old (R lane) (λ l at later_up. cc (at.2)) rest further) old.ordered;
      }

  trail_none : (on : ℕ) → Trail board op on []
  unfolding IsDistinct
  trail_none on = record { goes_down = λ none. tt; goes = tt; apart = tt; of_bridges = tt; ordered = λ i j d below within. absurd (omega arith) }

  trail_by : (onwards : BridgeLane → Route) (on : ℕ) (place : Place) → claim board on (request_on op on) ≡ place
      → ((lane : BridgeLane) → Trail board op (end_of board lane) (onwards lane).lanes) → Trail board op on (route_by onwards on place).lanes
  trail_by onwards on (Target target) is old = trail_none on
  trail_by onwards on (Header bus) is old = trail_none on
  trail_by onwards on (Lane lane) is old =
      ⊎_elim {C = Trail board op on (lane ∷ (onwards lane).lanes)}
      (λ (up : Up board op on lane). trail_up on lane (onwards lane).lanes up (old lane))
      (λ (down : Down board op on lane). trail_down on lane (onwards lane).lanes down (subst (λ n. Trail board op n (onwards lane).lanes) (end_down board op on lane down) (old lane)))
      (steps board op on lane tree.apart is)
  trail_by onwards on Nobody is old = trail_none on

  pub trail : (n on : ℕ) → Trail board op on (route_within n board op on).lanes
  trail zero on = trail_none on
  trail (suc n) on = trail_by (λ lane. route_within n board op (end_of board lane)) on (claim board on (request_on op on)) refl (λ lane. trail n (end_of board lane))
