-- Ways as paths of claims.
use Rattle.std.proofs.Common.{◌≡◌, ℕ, ◌≤◌, Bool, true, false, ◌||◌, List, [], ◌∷◌, ◌++◌, length, refl, ap, subst, arith, ◌+◌, Some, sym, ◌∙◌, slice_get, zero, suc}
use Rattle.std.specs.List.{list_any, AllByRecursion, IsDistinct}
use Rattle.std.proofs.lemmas.Bool.Decides.{nat_tests}
use Rattle.std.proofs.lemmas.Map.Keys.{IsDistinct-tail, IsDistinct-head}
use Rattle.list_facts.specs.Lists.{before, greatest}
use Rattle.board_model.specs.declared.bridge.Lane.{Lane as BridgeLane}
use Rattle.board_model.specs.declared.bridge.Place.{Place}
use Rattle.board_model.specs.declared.bridge.Place.TheVariants.{Lane, Target, Header, Nobody}
use Rattle.board_model.specs.declared.op.Op.{Op}
use Rattle.board_model.specs.declared.board.Board.{Board}
use Rattle.board_model.specs.Requests.{request_on}
use Rattle.board_model.specs.Claims.{claim}
use Rattle.board_model.specs.Ways.{Route, end_of, route_by, route_of, way, longest_way}
use Rattle.board_model.specs.form_laws.Trees.{IsTree}
use Rattle.board_model.specs.form_laws.WayEnds.{same_bridge}
use Rattle.board_model.proofs.form_laws.Laws.{WayEnds-tree}
use Rattle.history_model.specs.World.{same_lane}
use Rattle.history_model.proofs.facts.BridgeLemmas.{same_lane_self, same_lane_true}
use Rattle.pci_command.specs.declared.op_id.OpId.{OpId}
use Rattle.board_model.specs.declared.agents.Master.{Master as MasterAgent}

-- each lane claims where the one before it ends, the first one on the bus
abbrev pub Follows : Board → Op → ℕ → List BridgeLane → Type 0
Follows board op on [] = Unit {0}
Follows board op on (lane ∷ lanes) = (claim board on (request_on op on) ≡ Lane lane) × Follows board op (end_of board lane) lanes

-- a way is the lane that claims, and the way from its end
pub way_goes : (board : Board) (op : Op) (on : ℕ) (lane : BridgeLane) → IsTree board → claim board on (request_on op on) ≡ Lane lane → way board op on ≡ lane ∷ way board op (end_of board lane)
way_goes board op on lane tree claims =
    let onwards : BridgeLane → Route = λ l. route_of board op (end_of board l) in
    let ends = WayEnds-tree board op tree on in
    let F : Place → Type 0 = λ place. route_of board op on ≡ route_by onwards on place in
    let there : F (Lane lane) = subst F claims ends.onwards in
    ap (λ (r : Route). r.lanes) there

-- a path of claims is no longer than the way
follows_within : (board : Board) (op : Op) (tree : IsTree board) (on : ℕ) (lanes : List BridgeLane) → Follows board op on lanes → length lanes ≤ length (way board op on)
follows_within board op tree on [] follows = omega arith
follows_within board op tree on (lane ∷ lanes) follows =
    let goes = way_goes board op on lane tree follows.0 in
    rw goes (omega (arith, follows_within board op tree (end_of board lane) lanes follows.1))

-- so it has at most as many lanes as the board has bridges
pub follows_few : (board : Board) (op : Op) (on : ℕ) (lanes : List BridgeLane) → IsTree board → Follows board op on lanes → length lanes ≤ length board.bridges
follows_few board op on lanes tree follows =
    let ends = WayEnds-tree board op tree on in
    omega (arith, ends.within, follows_within board op tree on lanes follows)

-- lanes of different bridges are different
pub other_bridge : (a b : BridgeLane) → same_bridge a b ≡ false → same_lane b a ≡ false
other_bridge a b other = grind (arith, nat_tests)

-- what holds of each holds behind the first so many
Each-behind : {X : Type 0} (P : X → Type 0) (xs : List X) (x : X) (ys : List X) → AllByRecursion P (xs ++ x ∷ ys) → P x
Each-behind P [] x ys each = each.0
Each-behind P (z ∷ xs) x ys each = Each-behind P xs x ys each.1

-- where no bridge is twice among lanes, those before one of them are the first so many
pub before_lane : (lanes : List BridgeLane) (lane : BridgeLane) (later : List BridgeLane) → IsDistinct same_bridge (lanes ++ lane ∷ later) → before (same_lane lane) (lanes ++ lane ∷ later) ≡ lanes
before_lane [] lane later distinct = let self = same_lane_self lane in rw self refl
before_lane (first ∷ lanes) lane later distinct =
    let F : BridgeLane → Type 0 = λ l. same_bridge first l ≡ false in
    let apart : F lane = Each-behind F lanes lane later (IsDistinct-head same_bridge first (lanes ++ lane ∷ later) distinct) in
    let other : same_lane lane first ≡ false = other_bridge first lane apart in
    rw other (ap (λ ls. first ∷ ls) (before_lane lanes lane later (IsDistinct-tail same_bridge first (lanes ++ lane ∷ later) distinct)))

-- and it is one of them
pub any_lane : (lanes : List BridgeLane) (lane : BridgeLane) (later : List BridgeLane) → list_any (same_lane lane) (lanes ++ lane ∷ later) ≡ true
any_lane [] lane later = let self = same_lane_self lane in rw self refl
any_lane (first ∷ lanes) lane later =
    let P : Bool → Type 0 = λ b. (b || list_any (same_lane lane) (lanes ++ lane ∷ later)) ≡ true in
    elim (same_lane lane first) as P [ true ↦ refl | false ↦ any_lane lanes lane later ]

-- the way from a bus that is not empty: its first lane claims there, and the others are the way from its end
pub record WayCons (board : Board) (op : Op) (on : ℕ) (lane : BridgeLane) (lanes : List BridgeLane) : Type 0 where
  pub claims : claim board on (request_on op on) ≡ Lane lane
  pub later : lanes ≡ way board op (end_of board lane)

-- by who claims on the bus
cons_by : (board : Board) (op : Op) (on : ℕ) (lane : BridgeLane) (lanes : List BridgeLane) (place : Place) → claim board on (request_on op on) ≡ place
    → lane ∷ lanes ≡ (route_by (λ l. route_of board op (end_of board l)) on place).lanes → WayCons board op on lane lanes
cons_by board op on lane lanes (Target target) claims is = cc
cons_by board op on lane lanes (Header bus) claims is = cc
cons_by board op on lane lanes (Lane first) claims is =
    let same : lane ≡ first = cc in
    let others : lanes ≡ way board op (end_of board first) = cc in
    record { claims = claims ∙ ap Lane (sym same); later = others ∙ ap (λ l. way board op (end_of board l)) (sym same) }
cons_by board op on lane lanes Nobody claims is = cc

-- the first lane of a way and the others
pub way_cons : (board : Board) (op : Op) (on : ℕ) (lane : BridgeLane) (lanes : List BridgeLane) → IsTree board → lane ∷ lanes ≡ way board op on → WayCons board op on lane lanes
way_cons board op on lane lanes tree is =
    let ends = WayEnds-tree board op tree on in
    cons_by board op on lane lanes (claim board on (request_on op on)) refl (is ∙ ap (λ (r : Route). r.lanes) ends.onwards)

-- a lane of a way has fewer lanes behind it than the way has
pub way_behind : (board : Board) (op : Op) (tree : IsTree board) (lane : BridgeLane) (lanes : List BridgeLane) (on : ℕ) → lanes ≡ way board op on → list_any (same_lane lane) lanes ≡ true → length (way board op (end_of board lane)) + 1 ≤ length lanes
way_behind board op tree lane [] on is any = cc
way_behind board op tree lane (first ∷ lanes) on is any =
    let goes = way_cons board op on first lanes tree is in
    let P : Bool → Type 0 = λ b. same_lane lane first ≡ b → (b || list_any (same_lane lane) lanes) ≡ true → length (way board op (end_of board lane)) + 1 ≤ suc (length lanes) in
    (elim (same_lane lane first) as P [
      | true ↦ λ same _.
          let one : lane ≡ first = same_lane_true lane first same in
          let long : length lanes ≡ length (way board op (end_of board lane)) = ap length goes.later ∙ ap (λ (l : BridgeLane). length (way board op (end_of board l))) (sym one) in
          omega arith
      | false ↦ λ _ later. omega (arith, way_behind board op tree lane lanes (end_of board first) goes.later later)
    ]) refl any

-- the greatest weight is no less than that at a place
at_most_greatest : {X : Type 0} (weight : X → ℕ) (xs : List X) (i : ℕ) (x : X) → slice_get xs i ≡ Some x → weight x ≤ greatest weight xs
at_most_greatest weight [] i x is = cc
at_most_greatest weight (y ∷ xs) zero x is = let same : y ≡ x = cc in let weights = ap weight same in omega arith
at_most_greatest weight (y ∷ xs) (suc i) x is = omega (arith, at_most_greatest weight xs i x is)

-- no way of an operation of the board is longer than the longest
pub way_at_most : (board : Board) (o : OpId) (op : Op) (master : MasterAgent) → slice_get board.masters o.master ≡ Some master → slice_get master.ops o.index ≡ Some op → length (way board op master.bus) ≤ longest_way board
way_at_most board o op master is_master is_op =
    let long : MasterAgent → ℕ = λ m. greatest (λ p. length (way board p m.bus)) m.ops in
    omega (arith, at_most_greatest (λ p. length (way board p master.bus)) master.ops o.index op is_op, at_most_greatest long board.masters o.master master is_master)
