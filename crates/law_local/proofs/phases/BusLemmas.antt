-- On a valid board the ends of bridges are on buses that are there, and so are masters.
use Rattle.std.proofs.Common.{◌≡◌, ℕ, zero, suc, ◌==◌, ◌||◌, not, Bool, true, false, cond, List, [], ◌∷◌, Option, Some, None, refl, sym, ap, ◌∙◌, slice_get}
use Rattle.std.specs.List.{find, list_any}
use Rattle.std.proofs.lemmas.Bool.{or_parts, or_right, eqb-true}
use Rattle.board_model.specs.declared.agents.Master.{Master}
use Rattle.board_model.specs.declared.bridge.Bridge.{Bridge}
use Rattle.board_model.specs.declared.bridge.Lane.{Lane as BridgeLane}
use Rattle.board_model.specs.declared.board.Board.{Board}
use Rattle.board_model.specs.Ways.{primary_in, primary_of, start_of, end_of}
use Rattle.board_model.specs.Valid.{has_bridge_to, is_bus, lacks_a_bus}
use Rattle.history_model.specs.Answers.{is_on, bridge_to}

not_false : (b : Bool) → not b ≡ false → b ≡ true
not_false true e = refl
not_false false e = cc

-- what no element passes, the one that is found does not, nor the one at a place
found_fails : {X : Type 0} (pick test : X → Bool) (xs : List X) (x : X) → find pick xs ≡ Some x → list_any test xs ≡ false → test x ≡ false
found_fails pick test [] x some none = cc
found_fails pick test (y ∷ ys) x some none =
    let parts = or_parts (test y) (list_any test ys) none in
    let P : Bool → Type 0 = λ b. cond b (Some y) (find pick ys) ≡ Some x → test x ≡ false in
    (elim (pick y) as P [ true ↦ λ here. let same : y ≡ x = cc in ap test (sym same) ∙ parts.0 | false ↦ λ later. found_fails pick test ys x later parts.1 ]) some

place_fails : {X : Type 0} (test : X → Bool) (xs : List X) (k : ℕ) (x : X) → slice_get xs k ≡ Some x → list_any test xs ≡ false → test x ≡ false
place_fails test [] k x some none = cc
place_fails test (y ∷ ys) zero x some none = let same : y ≡ x = cc in ap test (sym same) ∙ (or_parts (test y) (list_any test ys) none).0
place_fails test (y ∷ ys) (suc k) x some none = place_fails test ys k x some (or_parts (test y) (list_any test ys) none).1

-- what is found passes somewhere
found_passes : {X : Type 0} (pick : X → Bool) (xs : List X) (x : X) → find pick xs ≡ Some x → list_any pick xs ≡ true
found_passes pick [] x some = cc
found_passes pick (y ∷ ys) x some =
    let P : Bool → Type 0 = λ b. cond b (Some y) (find pick ys) ≡ Some x → (b || list_any pick ys) ≡ true in
    (elim (pick y) as P [ true ↦ λ _. refl | false ↦ λ later. found_passes pick ys x later ]) some

-- no bus of a bridge, and none of a master, is lacking
record Lacking (board : Board) : Type 0 where
  parents : list_any (λ (bridge : Bridge). not (is_bus board bridge.parent)) board.bridges ≡ false
  masters : list_any (λ (master : Master). not (is_bus board master.bus)) board.masters ≡ false

lacking : (board : Board) → lacks_a_bus board ≡ false → Lacking board
lacking board none =
    let four = (or_parts _ _ none).0 in
    let three = or_parts _ _ (or_parts _ _ four).0 in
    record { parents = (or_parts _ _ three.0).0; masters = three.1 }

module _ (board : Board) (none : lacks_a_bus board ≡ false) where
  -- the two buses of a bridge
  parent_is_bus : (lane : BridgeLane) (bridge : Bridge) → bridge_to board lane.bus ≡ Some bridge → is_bus board (primary_of board lane.bus) ≡ true
  parent_is_bus lane bridge some =
      let above : primary_of board lane.bus ≡ bridge.parent = ap primary_in some in
      let there = found_fails (λ (b : Bridge). b.bus == lane.bus) (λ (b : Bridge). not (is_bus board b.parent)) board.bridges bridge some (lacking board none).parents in
      ap (is_bus board) above ∙ not_false (is_bus board bridge.parent) there

  own_is_bus : (lane : BridgeLane) (bridge : Bridge) → bridge_to board lane.bus ≡ Some bridge → is_bus board lane.bus ≡ true
  own_is_bus lane bridge some = or_right (lane.bus == 0) (has_bridge_to board lane.bus) (found_passes (λ (b : Bridge). b.bus == lane.bus) board.bridges bridge some)

  -- so a lane of a bridge begins and ends on a bus of the board
  pub start_is_bus : (lane : BridgeLane) (bridge : Bridge) → bridge_to board lane.bus ≡ Some bridge → is_bus board (start_of board lane) ≡ true
  start_is_bus lane bridge some =
      let P : Bool → Type 0 = λ up. is_bus board (cond up lane.bus (primary_of board lane.bus)) ≡ true in
      elim lane.up as P [ true ↦ own_is_bus lane bridge some | false ↦ parent_is_bus lane bridge some ]

  pub end_is_bus : (lane : BridgeLane) (bridge : Bridge) → bridge_to board lane.bus ≡ Some bridge → is_bus board (end_of board lane) ≡ true
  end_is_bus lane bridge some =
      let P : Bool → Type 0 = λ up. is_bus board (cond up (primary_of board lane.bus) lane.bus) ≡ true in
      elim lane.up as P [ true ↦ parent_is_bus lane bridge some | false ↦ own_is_bus lane bridge some ]

  -- a master is on a bus of the board
  pub master_is_there : (place bus : ℕ) (found : Option Master) → slice_get board.masters place ≡ found → is_on bus found ≡ true → is_bus board bus ≡ true
  master_is_there place bus None is on = cc
  master_is_there place bus (Some master) is on =
      let same : master.bus ≡ bus = eqb-true master.bus bus on in
      ap (is_bus board) (sym same) ∙ not_false (is_bus board master.bus) (place_fails (λ (m : Master). not (is_bus board m.bus)) board.masters place master is (lacking board none).masters)

-- what is on a bus that is there is on none that is not
pub not_there : (board : Board) (bus other : ℕ) → is_bus board bus ≡ false → is_bus board other ≡ true → other ≡ bus → ⊥
not_there board bus other lacks there same = let wrong : false ≡ true = sym lacks ∙ ap (is_bus board) (sym same) ∙ there in cc
