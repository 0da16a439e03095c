-- What it says that an initiator presents an operation.
use Rattle.std.proofs.Common.{◌≡◌, ℕ, zero, suc, ◌<◌, Bool, true, eqb, List, [], ◌∷◌, length, Option, Some, None, refl, ap, subst, arith, slice_get}
use Rattle.std.specs.List.{find, AllByRecursion}
use Rattle.std.proofs.lemmas.Bool.{and_parts, eqb-true}
use Rattle.list_facts.specs.Lists.{before}
use Rattle.pci_command.specs.declared.op_id.OpId.{OpId}
use Rattle.board_model.specs.declared.agents.Master.{Master as MasterAgent}
use Rattle.board_model.specs.declared.bridge.Lane.{Lane as BridgeLane}
use Rattle.board_model.specs.declared.board.Board.{Board}
use Rattle.board_model.specs.Ways.{end_of}
use Rattle.history_model.specs.declared.event.By.TheVariants.{Master, Lane as ByLane}
use Rattle.history_model.specs.declared.event.Event.{Event}
use Rattle.history_model.specs.declared.item.Carried.{Carried}
use Rattle.history_model.specs.Lanes.{is_of}
use Rattle.history_model.specs.World.{world_of}
use Rattle.history_model.specs.Program.{turn_of}
use Rattle.history_model.specs.Answers.{is_on, is_turn, presents_item, presents, wants}
use Rattle.history_model.proofs.facts.RequestLemmas.{same_op_true}
use Rattle.list_facts.proofs.EachLemmas.{Each-slice_get}
use Rattle.board_model.specs.Fits.{ProgramFits}

-- what is presented stands
pub presents_some : (board : Board) (on : ℕ) (o : OpId) (xs : List Carried) → presents board on o xs ≡ true → (item : Carried) × (find (is_of o) xs ≡ Some item)
presents_some board on o xs is =
    let P : Option Carried → Type 0 = λ found. find (is_of o) xs ≡ found → presents_item board on (before (is_of o) xs) found ≡ true → (item : Carried) × (find (is_of o) xs ≡ Some item) in
    (elim (find (is_of o) xs) as P [ None ↦ λ _ e. cc | Some item ↦ λ found _. (item, found) ]) refl is

-- a master that is on a bus is one of the list
pub at_master : (on : ℕ) (masters : List MasterAgent) (k : ℕ) → is_on on (slice_get masters k) ≡ true → k < length masters
at_master on [] k is = cc
at_master on (x ∷ xs) zero is = omega arith
at_master on (x ∷ xs) (suc k) is = omega (arith, at_master on xs k is)

-- and its bus is one of 256
pub master_bus : (on : ℕ) (masters : List MasterAgent) (k : ℕ) → AllByRecursion ProgramFits masters → is_on on (slice_get masters k) ≡ true → on < 256
master_bus on masters k fit is =
    let P : Option MasterAgent → Type 0 = λ found. slice_get masters k ≡ found → is_on on found ≡ true → on < 256 in
    (elim (slice_get masters k) as P [
      | None ↦ λ _ e. cc
      | Some master ↦ λ at e. subst (λ (bus : ℕ). bus < 256) (eqb-true master.bus on e) (Each-slice_get ProgramFits masters k master fit at).begins.bus
    ]) refl is

-- the turn of a master that presents its turn
turn_is : (o : OpId) (turn : Option OpId) → is_turn o turn ≡ true → turn ≡ Some o
turn_is o None is = cc
turn_is o (Some p) is = let same : p ≡ o = same_op_true p o is in ap (λ (q : OpId). Some q) same

-- a master presents its turn, on its bus
pub master_wants : (board : Board) (h : List Event) (on : ℕ) (o : OpId) → wants board h on Master o ≡ true → (is_on on (slice_get board.masters o.master) ≡ true) × (turn_of board h o.master ≡ Some o)
master_wants board h on o is =
    let there : Bool = is_on on (slice_get board.masters o.master) in
    let its : Bool = is_turn o (turn_of board h o.master) in
    ((and_parts there its is).0, turn_is o (turn_of board h o.master) (and_parts there its is).1)

-- a lane presents what stands on it, on the bus where it ends
pub lane_wants : (board : Board) (h : List Event) (on : ℕ) (lane : BridgeLane) (o : OpId) → wants board h on (ByLane lane) o ≡ true
    → (end_of board lane ≡ on) × (presents board on o (world_of board h lane).standing ≡ true)
lane_wants board h on lane o is =
    let ends : Bool = eqb (end_of board lane) on in
    let shown : Bool = presents board on o (world_of board h lane).standing in
    (eqb-true (end_of board lane) on (and_parts ends shown is).0, (and_parts ends shown is).1)
