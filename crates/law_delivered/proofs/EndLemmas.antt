-- Where the way of a memory request ends is the same from every bus.
use Rattle.std.proofs.Common.{◌≡◌, ℕ, zero, suc, ◌<◌, Bool, true, false, ◌||◌, not, ◌==◌, eqb, eqb-true, Option, Some, None, refl, sym, ap, subst, ◌∙◌, arith, slice_get}
use Rattle.std.specs.List.{list_any}
use Rattle.std.proofs.lemmas.Bool.Decides.{nat_tests}
use Rattle.pci_command.specs.declared.command.Command.TheVariants.{MemWrite}
use Rattle.pci_command.specs.declared.command.Space.TheVariants.{Mem}
use Rattle.pci_command.specs.declared.request.Request.{Request}
use Rattle.pci_command.specs.Same.{same_command}
use Rattle.board_model.specs.declared.agents.Master.{Master as MasterAgent}
use Rattle.board_model.specs.declared.agents.Target.{Target as TargetAgent}
use Rattle.board_model.specs.declared.bridge.Bridge.{Bridge}
use Rattle.board_model.specs.declared.bridge.Lane.{Lane as BridgeLane}
use Rattle.board_model.specs.declared.bridge.Place.{Place}
use Rattle.board_model.specs.declared.bridge.Place.TheVariants.{Target, Lane}
use Rattle.board_model.specs.declared.op.Op.{Op}
use Rattle.board_model.specs.declared.board.Board.{Board}
use Rattle.board_model.specs.Requests.{command_of, request_on}
use Rattle.board_model.specs.Claims.{bridge_holds, claim}
use Rattle.board_model.specs.Ways.{end_of, Route, route_by, route_of}
use Rattle.board_model.specs.Valid.{has_bridge_to, is_bus, IsValid}
use Rattle.board_model.specs.form_laws.Trees.{IsTree}
use Rattle.history_model.specs.Answers.{bridge_to}
use Rattle.std.proofs.lemmas.Bool.{or_parts, not-false}
use Rattle.list_facts.proofs.EachLemmas.{Each-find, Each-slice_get}
use Rattle.list_facts.proofs.FindLemmas.{find_passes, find-none_any}
use Rattle.list_facts.proofs.TestLemmas.{Each-list_any}
use Rattle.board_model.proofs.form_laws.Laws.{WayEnds-tree, IsTree-valid}
use Rattle.law_fresh.proofs.Laws.{parent, goes_down, goes_up, same_on}

-- the bus and the owner where a route ends
abbrev pub ending : Route → ℕ × Place
ending route = (route.bus, route.owner)

-- a route that goes on ends where it ends from the end of its first lane
pub ends_on : (board : Board) (op : Op) (on : ℕ) (lane : BridgeLane) → IsTree board → claim board on (request_on op on) ≡ Lane lane → ending (route_of board op on) ≡ ending (route_of board op (end_of board lane))
ends_on board op on lane tree claims =
    let onwards : BridgeLane → Route = λ l. route_of board op (end_of board l) in
    let ends = WayEnds-tree board op tree on in
    let F : Place → Type 0 = λ place. route_of board op on ≡ route_by onwards on place in
    let there : F (Lane lane) = subst F claims ends.onwards in
    ap ending there

-- one that a target claims ends there
pub ends_at : (board : Board) (op : Op) (on target : ℕ) → IsTree board → claim board on (request_on op on) ≡ Target target → ending (route_of board op on) ≡ (on, Target target)
ends_at board op on target tree claims =
    let onwards : BridgeLane → Route = λ l. route_of board op (end_of board l) in
    let ends = WayEnds-tree board op tree on in
    let F : Place → Type 0 = λ place. route_of board op on ≡ route_by onwards on place in
    let there : F (Target target) = subst F claims ends.onwards in
    ap ending there

-- agents are on buses that are there
pub target_bus : (board : Board) (valid : IsValid board) (place : ℕ) (target : TargetAgent) → slice_get board.targets place ≡ Some target → is_bus board target.bus ≡ true
target_bus board valid place target is =
    let lacks : list_any (λ (t : TargetAgent). not (is_bus board t.bus)) board.targets ≡ false = (or_parts _ _ (or_parts _ _ (or_parts _ _ (or_parts _ _ valid.buses).0).0).0).1 in
    let each = Each-list_any (λ (t : TargetAgent). not (is_bus board t.bus)) board.targets lacks in
    not-false (is_bus board target.bus) (Each-slice_get (λ (t : TargetAgent). not (is_bus board t.bus) ≡ false) board.targets place target each is)

pub master_bus_there : (board : Board) (valid : IsValid board) (place : ℕ) (master : MasterAgent) → slice_get board.masters place ≡ Some master → is_bus board master.bus ≡ true
master_bus_there board valid place master is =
    let lacks : list_any (λ (m : MasterAgent). not (is_bus board m.bus)) board.masters ≡ false = (or_parts _ _ (or_parts _ _ (or_parts _ _ valid.buses).0).0).1 in
    let each = Each-list_any (λ (m : MasterAgent). not (is_bus board m.bus)) board.masters lacks in
    not-false (is_bus board master.bus) (Each-slice_get (λ (m : MasterAgent). not (is_bus board m.bus) ≡ false) board.masters place master each is)

module _ (board : Board) (valid : IsValid board) (op : Op) (posted : same_command (command_of op) MemWrite ≡ true) where
  tree : IsTree board
  tree = IsTree-valid board valid

  -- on both sides of a bridge
  across : (bus : ℕ) (bridge : Bridge) → bridge_to board bus ≡ Some bridge → ending (route_of board op bus) ≡ ending (route_of board op bridge.parent)
  across bus bridge is_bridge =
      let address : ℕ = (request_on op bus).address in
      let there : address ≡ (request_on op bridge.parent).address = ap (λ (r : Request). r.address) (same_on op bus bridge.parent posted) in
      let P : Bool → Type 0 = λ b. bridge_holds Mem address bridge ≡ b → ending (route_of board op bus) ≡ ending (route_of board op bridge.parent) in
      (elim (bridge_holds Mem address bridge) as P [
        | true ↦ λ holds. sym (ends_on board op bridge.parent (record { bus = bus; up = false }) tree (goes_down board valid op posted bus bridge is_bridge address holds there))
        | false ↦ λ outside.
            let goes = goes_up board valid op posted bus bridge is_bridge address outside refl in
            ends_on board op bus (record { bus = bus; up = true }) tree goes
            ∙ ap (λ n. ending (route_of board op n)) (parent board valid op posted bus bridge is_bridge)
      ]) refl

  -- a bridge is there to each bus but the root
  bus_bridge : (X : Type 0) (bus : ℕ) → is_bus board bus ≡ true → (bus ≡ 0 → X) → ((bridge : Bridge) → bridge_to board bus ≡ Some bridge → X) → X
  bus_bridge X bus is at_root at_bridge =
      let P : Bool → Type 0 = λ b. eqb bus 0 ≡ b → (b || has_bridge_to board bus) ≡ true → X in
      let Q : Option Bridge → Type 0 = λ found. bridge_to board bus ≡ found → X in
      (elim (eqb bus 0) as P [
        | true ↦ λ root _. at_root (eqb-true bus 0 root)
        | false ↦ λ _ some. (elim (bridge_to board bus) as Q [
          | None ↦ λ none. let other = find-none_any (λ (bridge : Bridge). bridge.bus == bus) board.bridges none in let e : true ≡ false = sym some ∙ other in cc
          | Some bridge ↦ λ found. at_bridge bridge found
        ]) refl
      ]) refl is

  -- the primary bus of a bridge is there, with a lower number
  parent_there : (bus : ℕ) (bridge : Bridge) → bridge_to board bus ≡ Some bridge → (is_bus board bridge.parent ≡ true) × (bridge.parent < bus)
  parent_there bus bridge found =
      let test : Bridge → Bool = λ b. b.bus == bus in
      let number : eqb bridge.bus bus ≡ true = find_passes test board.bridges bridge found in
      let falls : bridge.parent < bridge.bus = Each-find (λ (b : Bridge). b.parent < b.bus) test board.bridges bridge tree.falls found in
      let lacks : list_any (λ (b : Bridge). not (is_bus board b.parent)) board.bridges ≡ false = (or_parts _ _ (or_parts _ _ (or_parts _ _ (or_parts _ _ valid.buses).0).0).0).0 in
      let each = Each-list_any (λ (b : Bridge). not (is_bus board b.parent)) board.bridges lacks in
      let there : not (is_bus board bridge.parent) ≡ false = Each-find (λ (b : Bridge). not (is_bus board b.parent) ≡ false) test board.bridges bridge each found in
      (not-false (is_bus board bridge.parent) there, grind (arith, nat_tests))

  from_root : (n bus : ℕ) → bus < n → is_bus board bus ≡ true → ending (route_of board op bus) ≡ ending (route_of board op 0)
  from_root zero bus below is = absurd (omega (arith, below))
  from_root (suc n) bus below is =
      bus_bridge (ending (route_of board op bus) ≡ ending (route_of board op 0)) bus is
      (λ root. ap (λ b. ending (route_of board op b)) root)
      (λ bridge found.
      let up = parent_there bus bridge found in
      across bus bridge found ∙ from_root n bridge.parent (omega (arith, below, up.1)) up.0)

  -- so where a target claims on some bus, it is the owner from every bus
  pub one_end : (on other target : ℕ) → is_bus board on ≡ true → is_bus board other ≡ true → claim board on (request_on op on) ≡ Target target → ending (route_of board op other) ≡ (on, Target target)
  one_end on other target here there claims =
      from_root (suc other) other (omega arith) there ∙ sym (from_root (suc on) on (omega arith) here) ∙ ends_at board op on target tree claims
