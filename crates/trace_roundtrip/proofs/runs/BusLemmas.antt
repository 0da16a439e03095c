-- The buses and bridges that a board names are there.
use Rattle.std.proofs.Common.{◌≡◌, ℕ, ◌<◌, ◌==◌, Bool, true, false, ◌||◌, not, cond, zero, suc, nat_lt, List, [], ◌∷◌, length, Option, Some, None, refl, sym, subst, arith, slice_get}
use Rattle.std.specs.List.{list_any, AllByRecursion}
use Rattle.std.proofs.lemmas.Bool.{or_parts, or_right}
use Rattle.std.proofs.lemmas.Bool.Decides.{nat_tests}
use Rattle.list_facts.proofs.EachLemmas.{Each-find, Each-slice_get}
use Rattle.board_model.specs.declared.agents.Master.{Master as MasterAgent}
use Rattle.board_model.specs.declared.agents.Target.{Target as TargetAgent}
use Rattle.board_model.specs.declared.bridge.Bridge.{Bridge}
use Rattle.board_model.specs.declared.bridge.Lane.{Lane as BridgeLane}
use Rattle.board_model.specs.declared.board.Board.{Board}
use Rattle.board_model.specs.WellFormed.{has_bus}
use Rattle.board_model.specs.Valid.{has_bridge_to, is_bus, lacks_a_bus}
use Rattle.board_model.specs.Ways.{primary_in, primary_of, end_of}
use Rattle.history_model.specs.Answers.{is_on, bridge_to}
use Rattle.list_facts.proofs.AnyLemmas.{find_any}

-- where none fails a test, each passes it
none_fails : {X : Type 0} (test : X → Bool) (xs : List X) → list_any (λ x. not (test x)) xs ≡ false → AllByRecursion (λ x. test x ≡ true) xs
none_fails test [] none = tt
none_fails test (x ∷ xs) none =
    let P : Bool → Type 0 = λ b. (not b || list_any (λ x. not (test x)) xs) ≡ false → (b ≡ true) × AllByRecursion (λ x. test x ≡ true) xs in
    (elim (test x) as P [ true ↦ λ e. (refl, none_fails test xs e) | false ↦ λ e. cc ]) none

-- what is found at an index has an index below the length
slice_get-below : {X : Type 0} (xs : List X) (index : ℕ) (x : X) → slice_get xs index ≡ Some x → index < length xs
slice_get-below [] index x some = cc
slice_get-below (y ∷ xs) zero x some = omega arith
slice_get-below (y ∷ xs) (suc index) x some = omega (arith, slice_get-below xs index x some)

-- a bridge that is found is there
pub bridge_is_there : (board : Board) (bus : ℕ) (bridge : Bridge) → bridge_to board bus ≡ Some bridge → has_bridge_to board bus ≡ true
bridge_is_there board bus bridge some = find_any (has_bus bus) board.bridges bridge some

-- a target that is found has an index of the board
pub target_is_there : (board : Board) (index : ℕ) (target : TargetAgent) → slice_get board.targets index ≡ Some target → nat_lt index (length board.targets) ≡ true
target_is_there board index target some = let below = slice_get-below board.targets index target some in grind (arith, nat_tests)

-- the bus of a bridge is there
pub bus_behind : (board : Board) (bus : ℕ) → has_bridge_to board bus ≡ true → is_bus board bus ≡ true
bus_behind board bus there = or_right (bus == 0) (has_bridge_to board bus) there

-- where no bus lacks, the primary bus of each bridge is there
parents_there : (board : Board) → lacks_a_bus board ≡ false → AllByRecursion (λ (bridge : Bridge). is_bus board bridge.parent ≡ true) board.bridges
parents_there board none =
    none_fails (λ (bridge : Bridge). is_bus board bridge.parent) board.bridges
    (or_parts _ _ (or_parts _ _ (or_parts _ _ (or_parts _ _ none).0).0).0).0

-- and so is the bus of each master
masters_there : (board : Board) → lacks_a_bus board ≡ false → AllByRecursion (λ (master : MasterAgent). is_bus board master.bus ≡ true) board.masters
masters_there board none =
    none_fails (λ (master : MasterAgent). is_bus board master.bus) board.masters
    (or_parts _ _ (or_parts _ _ (or_parts _ _ none).0).0).1

-- the same, by the master that is found
master_on : (board : Board) (on : ℕ) (place : ℕ) (found : Option MasterAgent) → lacks_a_bus board ≡ false → slice_get board.masters place ≡ found → is_on on found ≡ true → is_bus board on ≡ true
master_on board on place None none is_master is = cc
master_on board on place (Some master) none is_master is =
    let P : MasterAgent → Type 0 = λ m. is_bus board m.bus ≡ true in
    let same : master.bus ≡ on = grind (arith, nat_tests) in
    subst (λ b. is_bus board b ≡ true) same (Each-slice_get P board.masters place master (masters_there board none) is_master)

-- a bus that a master is on is there
pub master_is_on : (board : Board) (on : ℕ) (place : ℕ) → lacks_a_bus board ≡ false → is_on on (slice_get board.masters place) ≡ true → is_bus board on ≡ true
master_is_on board on place none is = master_on board on place (slice_get board.masters place) none refl is

-- the bus on which a lane of a bridge ends is there
pub end_is_bus : (board : Board) (lane : BridgeLane) (bridge : Bridge) → lacks_a_bus board ≡ false → bridge_to board lane.bus ≡ Some bridge → is_bus board (end_of board lane) ≡ true
end_is_bus board lane bridge none is =
    let P : Bridge → Type 0 = λ b. is_bus board b.parent ≡ true in
    let parent : is_bus board bridge.parent ≡ true = Each-find P (has_bus lane.bus) board.bridges bridge (parents_there board none) is in
    let above : is_bus board (primary_of board lane.bus) ≡ true = subst (λ (found : Option Bridge). is_bus board (primary_in found) ≡ true) (sym is) parent in
    let here : is_bus board lane.bus ≡ true = bus_behind board lane.bus (bridge_is_there board lane.bus bridge is) in
    let Q : Bool → Type 0 = λ up. is_bus board (cond up (primary_of board lane.bus) lane.bus) ≡ true in
    elim lane.up as Q [ true ↦ above | false ↦ here ]
