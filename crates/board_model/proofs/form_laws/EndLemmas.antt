-- A way ends: it takes no more lanes than the board has bridges.
use Rattle.std.proofs.Common.{◌≡◌, ℕ, zero, suc, ◌+◌, ◌-◌, ◌<◌, ◌≤◌, Bool, true, false, cond, eqb, ◌||◌, List, [], ◌∷◌, length, refl, sym, ap, subst, ◌∙◌, ⊎_elim, arith, add-zero, add-suc}
use Rattle.std.specs.List.{list_any, AllByRecursion, IsDistinct}
use Rattle.std.proofs.lemmas.Bool.Decides.{nat_tests}
use Rattle.std.proofs.lemmas.Map.Keys.{IsDistinct-tail, IsDistinct-head}
use Rattle.list_facts.specs.Lists.{less, greatest}
use Rattle.list_facts.proofs.EachLemmas.{Each-find, Each-weaker, Each-both}
use Rattle.board_model.specs.declared.bridge.Bridge.{Bridge}
use Rattle.board_model.specs.declared.bridge.Lane.{Lane as BridgeLane}
use Rattle.board_model.specs.declared.bridge.Place.{Place}
use Rattle.board_model.specs.declared.bridge.Place.TheVariants.{Target, Header, Lane, Nobody}
use Rattle.board_model.specs.declared.op.Op.{Op}
use Rattle.board_model.specs.declared.board.Board.{Board}
use Rattle.board_model.specs.Requests.{request_on}
use Rattle.board_model.specs.Claims.{claim}
use Rattle.board_model.specs.Ways.{end_of, Route, route_by, route_within, route_of, way, is_lane}
use Rattle.board_model.specs.WellFormed.{has_bus}
use Rattle.board_model.specs.form_laws.Trees.{IsTree}
use Rattle.board_model.specs.form_laws.WayEnds.{same_bridge, WayEnds, last_bus, rank, GoesOn}
use Rattle.board_model.proofs.form_laws.StepLemmas.{stays, Up, Down, steps}
use Rattle.board_model.proofs.form_laws.WayLemmas.{number_of, end_down, up-below, down-above, Trail, trail}

-- an element that passes is one more than the others
length-less : {X : Type 0} (test : X → Bool) (xs : List X) → list_any test xs ≡ true → suc (length (less test xs)) ≤ length xs
length-less test [] any = cc
length-less test (x ∷ xs) any =
    let P : Bool → Type 0 = λ b. (b || list_any test xs) ≡ true → suc (length (cond b xs (x ∷ less test xs))) ≤ suc (length xs) in
    (elim (test x) as P [ true ↦ λ e. omega arith | false ↦ λ e. omega (arith, length-less test xs e) ]) any

-- an element that passes another test stays
any-less : {X : Type 0} (test other : X → Bool) → ((x : X) → test x ≡ true → other x ≡ false) → (xs : List X) → list_any other xs ≡ true → list_any other (less test xs) ≡ true
any-less test other apart [] any = cc
any-less test other apart (x ∷ xs) any =
    let P : Bool → Type 0 = λ b. test x ≡ b → list_any other (cond b xs (x ∷ less test xs)) ≡ true in
    (elim (test x) as P [
      | true ↦ λ passes. let fails : other x ≡ false = apart x passes in rw fails at any
      | false ↦ λ fails.
          let Q : Bool → Type 0 = λ b. (b || list_any other xs) ≡ true → (b || list_any other (less test xs)) ≡ true in
          (elim (other x) as Q [ true ↦ λ e. refl | false ↦ λ e. any-less test other apart xs e ]) any
    ]) refl

-- no more lanes of different bridges than there are bridges
lanes-within : (lanes : List BridgeLane) (bridges : List Bridge) → IsDistinct same_bridge lanes → AllByRecursion (λ (lane : BridgeLane). list_any (has_bus lane.bus) bridges ≡ true) lanes → length lanes ≤ length bridges
lanes-within [] bridges distinct there = omega arith
lanes-within (lane ∷ lanes) bridges distinct there =
    let rest : List Bridge = less (has_bus lane.bus) bridges in
    let Apart : BridgeLane → Type 0 = λ l. same_bridge lane l ≡ false in
    let There : BridgeLane → Type 0 = λ l. list_any (has_bus l.bus) bridges ≡ true in
    let Left : BridgeLane → Type 0 = λ l. list_any (has_bus l.bus) rest ≡ true in
    let stays_there : (l : BridgeLane) → Apart l × There l → Left l =
    λ l both. any-less (has_bus lane.bus) (has_bus l.bus)
    (λ bridge passes. let same : eqb bridge.bus lane.bus ≡ true = passes in let apart : eqb lane.bus l.bus ≡ false = both.0 in grind (arith, nat_tests)) bridges both.1 in
    let left : AllByRecursion Left lanes =
    Each-weaker (λ (l : BridgeLane). Apart l × There l) Left stays_there lanes (Each-both Apart There lanes (IsDistinct-head same_bridge lane lanes distinct) there.1) in
    omega (arith, length-less (has_bus lane.bus) bridges there.0, lanes-within lanes rest (IsDistinct-tail same_bridge lane lanes distinct) left)

-- following one more claim

longer_by : (n : ℕ) (onwards more : BridgeLane → Route) (on : ℕ) (place : Place)
    → ((lane : BridgeLane) → is_lane (onwards lane).owner ≡ true → length (more lane).lanes ≡ n)
    → is_lane (route_by onwards on place).owner ≡ true → length (route_by more on place).lanes ≡ suc n
longer_by n onwards more on (Target target) old goes_on = cc
longer_by n onwards more on (Header bus) old goes_on = cc
longer_by n onwards more on (Lane lane) old goes_on = ap suc (old lane goes_on)
longer_by n onwards more on Nobody old goes_on = cc

longer_first : (more : BridgeLane → Route) (on : ℕ) (place : Place) → ((lane : BridgeLane) → (more lane).lanes ≡ []) → is_lane place ≡ true → length (route_by more on place).lanes ≡ 1
longer_first more on (Target target) old goes_on = cc
longer_first more on (Header bus) old goes_on = cc
longer_first more on (Lane lane) old goes_on = let none : (more lane).lanes ≡ [] = old lane in rw none refl
longer_first more on Nobody old goes_on = cc

-- where a way has not ended, each further claim makes it longer
longer : (board : Board) (op : Op) (n on : ℕ) → is_lane (route_within n board op on).owner ≡ true → length (route_within (suc n) board op on).lanes ≡ suc n
longer board op zero on goes_on = longer_first (λ lane. route_within zero board op (end_of board lane)) on (claim board on (request_on op on)) (λ lane. refl) goes_on
longer board op (suc n) on goes_on =
    longer_by (suc n) (λ lane. route_within n board op (end_of board lane)) (λ lane. route_within (suc n) board op (end_of board lane)) on (claim board on (request_on op on))
    (λ lane. longer board op n (end_of board lane)) goes_on

-- a lane, and then a way
abbrev behind : BridgeLane → Route → Route
behind lane rest = record { lanes = lane ∷ rest.lanes; bus = rest.bus; owner = rest.owner }

-- where it has ended, nothing comes
same_by : (onwards more : BridgeLane → Route) (on : ℕ) (place : Place)
    → ((lane : BridgeLane) → is_lane (onwards lane).owner ≡ false → more lane ≡ onwards lane)
    → is_lane (route_by onwards on place).owner ≡ false → route_by more on place ≡ route_by onwards on place
same_by onwards more on (Target target) old ended = refl
same_by onwards more on (Header bus) old ended = refl
same_by onwards more on (Lane lane) old ended = ap (behind lane) (old lane ended)
same_by onwards more on Nobody old ended = refl

same_first : (more : BridgeLane → Route) (on : ℕ) (place : Place) → is_lane place ≡ false → route_by more on place ≡ record { lanes = []; bus = on; owner = place }
same_first more on (Target target) ended = refl
same_first more on (Header bus) ended = refl
same_first more on (Lane lane) ended = cc
same_first more on Nobody ended = refl

ended : (board : Board) (op : Op) (n on : ℕ) → is_lane (route_within n board op on).owner ≡ false → route_within (suc n) board op on ≡ route_within n board op on
ended board op zero on is = same_first (λ lane. route_within zero board op (end_of board lane)) on (claim board on (request_on op on)) is
ended board op (suc n) on is =
    same_by (λ lane. route_within n board op (end_of board lane)) (λ lane. route_within (suc n) board op (end_of board lane)) on (claim board on (request_on op on))
    (λ lane. ended board op n (end_of board lane)) is

module _ (board : Board) (op : Op) (tree : IsTree board) where
  within : (n on : ℕ) → length (route_within n board op on).lanes ≤ length board.bridges
  within n on = let t : Trail board op on (route_within n board op on).lanes = trail board op tree n on in lanes-within (route_within n board op on).lanes board.bridges t.apart t.of_bridges

  -- a way that takes as many lanes as there are bridges has ended
  ends : (n on : ℕ) → length board.bridges ≤ n → is_lane (route_within n board op on).owner ≡ false
  ends n on enough =
      let P : Bool → Type 0 = λ b. is_lane (route_within n board op on).owner ≡ b → b ≡ false in
      (elim (is_lane (route_within n board op on).owner) as P [
        | true ↦ λ goes_on. absurd (omega (arith, longer board op n on goes_on, within (suc n) on))
        | false ↦ λ e. refl
      ]) refl

  followed_more : (more on : ℕ) → route_within (length board.bridges + more) board op on ≡ route_of board op on
  followed_more zero on = rw (add-zero) refl
  followed_more (suc more) on =
      rw (add-suc) (ended board op (length board.bridges + more) on (ends (length board.bridges + more) on (omega arith)) ∙ followed_more more on)

  followed : (n on : ℕ) → length board.bridges ≤ n → route_within n board op on ≡ route_of board op on
  followed n on enough =
      let n_is : length board.bridges + (n - length board.bridges) ≡ n = omega arith in
      subst (λ m. route_within m board op on ≡ route_of board op on) n_is (followed_more (n - length board.bridges) on)

  pub WayEnds-tree : (on : ℕ) → WayEnds board op on
  WayEnds-tree on =
      let n : ℕ = length board.bridges in
      let t : Trail board op on (way board op on) = trail board op tree n on in
      record {
        no_bridge_twice = t.apart;
        of_bridges = t.of_bridges;
        within = within n on;
        up_then_down = t.ordered;
        ends = ends n on (omega arith);
        followed = λ m enough. followed m on enough;
        onwards = sym (ended board op n on (ends n on (omega arith)));
      }

-- the rank falls

each_at_most : (bridges : List Bridge) (most : ℕ) → greatest (λ (bridge : Bridge). bridge.bus) bridges ≤ most → AllByRecursion (λ (bridge : Bridge). bridge.bus ≤ most) bridges
each_at_most [] most below = tt
each_at_most (bridge ∷ bridges) most below = (omega arith, each_at_most bridges most (omega arith))

down-at_most : (board : Board) (op : Op) (on : ℕ) (lane : BridgeLane) → Down board op on lane → lane.bus ≤ last_bus board
down-at_most board op on lane goes =
    let most : goes.child.bus ≤ last_bus board = Each-find (λ (bridge : Bridge). bridge.bus ≤ last_bus board) (has_bus lane.bus) board.bridges goes.child (each_at_most board.bridges (last_bus board) (omega arith)) goes.is_child in
    omega (arith, number_of board lane.bus goes.child goes.is_child)

rank_up : (board : Board) (op : Op) (on : ℕ) (lane : BridgeLane) → Up board op on lane → rank board lane ≡ last_bus board + on
rank_up board op on lane goes = ap (rank board) goes.is

rank_down : (board : Board) (op : Op) (on : ℕ) (lane : BridgeLane) → Down board op on lane → rank board lane ≡ last_bus board - lane.bus
rank_down board op on lane goes = ap (rank board) goes.is

pub rank-falls : (board : Board) (op : Op) (on : ℕ) (lane onwards : BridgeLane) → IsTree board → GoesOn board op on lane onwards → rank board onwards < rank board lane
rank-falls board op on lane onwards tree goes =
    let at : ℕ = end_of board lane in
    let Goal : Type 0 = rank board onwards < rank board lane in
    ⊎_elim {C = Goal}
    (λ (up : Up board op on lane).
    let below : at < on = up-below board op on lane tree up in
    ⊎_elim {C = Goal}
    (λ (up_again : Up board op at onwards). omega (arith, rank_up board op on lane up, rank_up board op at onwards up_again))
    (λ (down : Down board op at onwards). omega (arith, rank_up board op on lane up, rank_down board op at onwards down, down-above board op at onwards tree down))
    (steps board op at onwards tree.apart goes.second))
    (λ (down : Down board op on lane).
    let at_end : at ≡ lane.bus = end_down board op on lane down in
    ⊎_elim {C = Goal}
    (λ (up : Up board op at onwards). let leaves : stays board op at ≡ false = up.leaves in let inside : stays board op lane.bus ≡ true = down.inside in absurd (cc))
    (λ (down_again : Down board op at onwards).
    omega (arith, rank_down board op on lane down, rank_down board op at onwards down_again, down-above board op at onwards tree down_again, down-at_most board op at onwards down_again))
    (steps board op at onwards tree.apart goes.second))
    (steps board op on lane tree.apart goes.first)
