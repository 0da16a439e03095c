-- Where a lane ends among the workers.
use Rattle.std.proofs.Common.{◌≡◌, ℕ, ◌==◌, true, false, Bool, List, Option, Some, None, refl, sym, ap, subst, ◌∙◌, slice_get}
use Rattle.std.proofs.lemmas.Bool.{eqb-true, eqb-false}
use Rattle.board_model.specs.declared.bridge.Bridge.{Bridge}
use Rattle.board_model.specs.declared.bridge.Lane.{Lane as BridgeLane}
use Rattle.board_model.specs.declared.board.Board.{Board}
use Rattle.board_model.specs.Valid.{is_bus, IsValid}
use Rattle.board_model.specs.Ways.{end_of}
use Rattle.history_model.specs.Answers.{bridge_to}
use Rattle.law_local.proofs.phases.Laws.{end_is_bus}
use Rattle.bus_core.specs.Bus.{Shape, shape_of, IsOf}
use Rattle.bus_segment.specs.Stands.{WorkerView}
use Rattle.engine_phases.specs.Workers.{AreWorkers}
use Rattle.engine_phases.specs.Phase.{AreApart}

-- at which worker, and at which of its ports
pub record Spot : Type 0 where
  pub worker : ℕ
  pub port : ℕ

-- what stands at a place is one
pub same_there : {X : Type 0} (xs : List X) (n : ℕ) (x y : X) → slice_get xs n ≡ Some x → slice_get xs n ≡ Some y → x ≡ y
same_there xs n x y one other = let both = sym one ∙ other in cc

-- lanes of a bus at two places are two
pub same_port : (board : Board) (shape : Shape) (lane : BridgeLane) (n m : ℕ) → IsOf board shape → slice_get shape.lanes n ≡ Some lane → slice_get shape.lanes m ≡ Some lane → n ≡ m
same_port board shape lane n m is_of here there =
    let P : Bool → Type 0 = λ b. (n == m) ≡ b → n ≡ m in
    (elim (n == m) as P [
      | true ↦ λ same. eqb-true n m same
      | false ↦ λ differ. absurd (is_of.lanes_apart n m lane lane here there (eqb-false n m differ) refl)
    ]) refl

module _ {End : Type 0} (board : Board) (valid : IsValid board) (workers : List (WorkerView End)) (are : AreWorkers board workers) (apart : AreApart board workers) where
  -- the worker of a bus of the board
  place_by : (bus : ℕ) (b : Bool) → is_bus board bus ≡ b → Option ℕ
  place_by bus true there = Some (are.each_bus bus there).0
  place_by bus false lacks = None

  pub place_of : ℕ → Option ℕ
  place_of bus = place_by bus (is_bus board bus) refl

  place_by_at : (bus : ℕ) (b : Bool) (is : is_bus board bus ≡ b) (k : ℕ) (w : WorkerView End) → slice_get workers k ≡ Some w → w.segment.bus.bus ≡ bus → place_by bus b is ≡ Some k
  unfolding place_by
  place_by_at bus true there k w here same =
      let found = are.each_bus bus there in
      let one : found.0 ≡ k = apart.apart found.0 k found.1 w found.2 here (found.3 ∙ sym same) in
      let S : ℕ → Option ℕ = λ n. Some n in
      ap S one
  place_by_at bus false lacks k w here same =
      let wrong : false ≡ true = sym lacks ∙ (ap (is_bus board) (sym same) ∙ apart.there k w here) in cc

  pub place_at : (k : ℕ) (w : WorkerView End) → slice_get workers k ≡ Some w → place_of w.segment.bus.bus ≡ Some k
  unfolding place_of
  place_at k w here = place_by_at w.segment.bus.bus (is_bus board w.segment.bus.bus) refl k w here refl

  place_by_none : (bus : ℕ) (b : Bool) (is : is_bus board bus ≡ b) → is_bus board bus ≡ false → place_by bus b is ≡ None
  unfolding place_by
  place_by_none bus true there lacks = let wrong : true ≡ false = sym there ∙ lacks in cc
  place_by_none bus false is lacks = refl

  pub place_none : (bus : ℕ) → is_bus board bus ≡ false → place_of bus ≡ None
  unfolding place_of
  place_none bus lacks = place_by_none bus (is_bus board bus) refl lacks

  -- the port of a lane of a bridge
  spot_by : (lane : BridgeLane) (found : Option Bridge) → bridge_to board lane.bus ≡ found → Option Spot
  spot_by lane None missing = None
  spot_by lane (Some bridge) some =
      let there = are.each_bus (end_of board lane) (end_is_bus board valid.buses lane bridge some) in
      let place = (are.of_board there.0 there.1 there.2).each_lane lane bridge some (sym there.3) in
      Some (record { worker = there.0; port = place.0 })

  pub spot_of : BridgeLane → Option Spot
  spot_of lane = spot_by lane (bridge_to board lane.bus) refl

  spot_by_at : (lane : BridgeLane) (found : Option Bridge) (is : bridge_to board lane.bus ≡ found) (k : ℕ) (w : WorkerView End) (n : ℕ) → slice_get workers k ≡ Some w
      → slice_get (shape_of w.segment.bus).lanes n ≡ Some lane → spot_by lane found is ≡ Some (record { worker = k; port = n })
  unfolding spot_by
  spot_by_at lane None missing k w n here at =
      let found = apart.bridges k w n lane here at in
      let wrong : None ≡ Some found.0 = sym missing ∙ found.1 in cc
  spot_by_at lane (Some bridge) some k w n here at =
      let there = are.each_bus (end_of board lane) (end_is_bus board valid.buses lane bridge some) in
      let place = (are.of_board there.0 there.1 there.2).each_lane lane bridge some (sym there.3) in
      let one : there.0 ≡ k = apart.apart there.0 k there.1 w there.2 here (there.3 ∙ are.ends_there k w n lane here at) in
      let there_too : slice_get workers there.0 ≡ Some w = ap (slice_get workers) one ∙ here in
      let same : there.1 ≡ w = same_there workers there.0 there.1 w there.2 there_too in
      let placed : slice_get (shape_of w.segment.bus).lanes place.0 ≡ Some lane = subst (λ (v : WorkerView End). slice_get (shape_of v.segment.bus).lanes place.0 ≡ Some lane) same place.1 in
      let port : place.0 ≡ n = same_port board (shape_of w.segment.bus) lane place.0 n (are.of_board k w here) placed at in
      let S : ℕ → ℕ → Option Spot = λ a b. Some (record { worker = a; port = b }) in
      ap (λ (a : ℕ). S a place.0) one ∙ ap (S k) port

  pub spot_at : (k : ℕ) (w : WorkerView End) (n : ℕ) (lane : BridgeLane) → slice_get workers k ≡ Some w → slice_get (shape_of w.segment.bus).lanes n ≡ Some lane → spot_of lane ≡ Some (record { worker = k; port = n })
  unfolding spot_of
  spot_at k w n lane here at = spot_by_at lane (bridge_to board lane.bus) refl k w n here at

  spot_by_none : (lane : BridgeLane) (found : Option Bridge) (is : bridge_to board lane.bus ≡ found) → bridge_to board lane.bus ≡ None → spot_by lane found is ≡ None
  unfolding spot_by
  spot_by_none lane None is missing = refl
  spot_by_none lane (Some bridge) some missing = let wrong : None ≡ Some bridge = sym missing ∙ some in cc

  pub spot_none : (lane : BridgeLane) → bridge_to board lane.bus ≡ None → spot_of lane ≡ None
  unfolding spot_of
  spot_none lane missing = spot_by_none lane (bridge_to board lane.bus) refl missing
