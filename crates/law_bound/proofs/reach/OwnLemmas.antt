-- The slots of one operation: each is on its way and has its item, and its request stands where a lane presents it.
use Rattle.std.proofs.Common.{◌≡◌, ℕ, ◌+◌, ◌≤◌, Bool, true, false, cond, List, [], ◌∷◌, Option, Some, None, refl, sym, ap, subst, ◌∙◌, arith, slice_get, ◌==◌}
use Rattle.std.specs.List.{find, list_any, AllByRecursion}
use Rattle.list_facts.specs.Lists.{before, total, less}
use Rattle.list_facts.proofs.EachLemmas.{Each-find}
use Rattle.list_facts.proofs.FindLemmas.{find_passes}
use Rattle.list_facts.proofs.TotalLemmas.{found, found-le, total-less}
use Rattle.pci_command.specs.declared.op_id.OpId.{OpId}
use Rattle.pci_command.specs.Same.{same_op, same_command}
use Rattle.board_model.specs.declared.agents.Master.{Master as MasterAgent}
use Rattle.board_model.specs.declared.bridge.Lane.{Lane as BridgeLane}
use Rattle.board_model.specs.declared.op.Op.{Op}
use Rattle.board_model.specs.declared.board.Board.{Board}
use Rattle.board_model.specs.Requests.{op_of, command_of}
use Rattle.board_model.specs.Ways.{end_of, way}
use Rattle.board_model.specs.Valid.{IsValid}
use Rattle.board_model.proofs.form_laws.Laws.{IsTree-valid}
use Rattle.history_model.specs.declared.event.Event.{Event}
use Rattle.history_model.specs.declared.item.Carried.TheVariants.{Ask, Post, Done, Room, Gone}
use Rattle.history_model.specs.declared.item.Slot.{Slot}
use Rattle.history_model.specs.Lanes.{has_number, is_of}
use Rattle.history_model.specs.World.{same_lane, both, world_of}
use Rattle.history_model.specs.Runs.{Run}
use Rattle.history_model.specs.Local.{is_ask_of}
use Rattle.history_model.specs.Left.{is_slot_of}
use Rattle.law_lanes.specs.Slots.{HasOneItem, IsHeldFor}
use Rattle.history_model.proofs.facts.RequestLemmas.{same_op_true, same_op_self}
use Rattle.law_lanes.proofs.Laws.{Slots-run, HasOneItem-each, Each-found_itself, WellFormed-numbers, WellFormed-single, RightKind-run}
use Rattle.law_bound.specs.reach.Reach.{Passed, slots_of, Reaches}
use Rattle.std.proofs.lemmas.Bool.{and_parts}
use Rattle.history_model.specs.Program.{turn_of}
use Rattle.pci_command.specs.declared.command.Command.TheVariants.{MemWrite}
use Rattle.history_model.specs.declared.event.By.TheVariants.{Lane as ByLane}
use Rattle.history_model.specs.declared.item.Carried.{Carried}
use Rattle.history_model.specs.Answers.{wants, presents, presents_item}
use Rattle.law_lanes.specs.Kinds.{NamesOp, RightKind}
use Rattle.law_bound.proofs.reach.ReachLemmas.{Reaches-run, ask_stands_first}
use Rattle.list_facts.proofs.AnyLemmas.{any_some, weigh_none}

-- where only one element has a weight, a test of those that weigh finds it
found_only : (o : OpId) (test : Slot → Bool) (held : List Slot) (slot : Slot) → total (slots_of o) held ≤ 1 → find test held ≡ Some slot → is_slot_of o slot ≡ true → find (is_slot_of o) held ≡ Some slot
found_only o test [] slot once some is = cc
found_only o test (other ∷ held) slot once some is =
    let P : Bool → Type 0 = λ b. cond b (Some other) (find test held) ≡ Some slot → cond (is_slot_of o other) (Some other) (find (is_slot_of o) held) ≡ Some slot in
    let Q : Bool → Type 0 = λ b. is_slot_of o other ≡ b → cond b 1 0 + total (slots_of o) held ≤ 1 → find test held ≡ Some slot → cond b (Some other) (find (is_slot_of o) held) ≡ Some slot in
    (elim (test other) as P [
      | true ↦ λ e. let same : other ≡ slot = cc in let here : is_slot_of o other ≡ true = cc in rw here e
      | false ↦ λ e. (elim (is_slot_of o other) as Q [
        | true ↦ λ _ twice f.
            let one : slots_of o slot ≡ 1 = rw is refl in
            let weighs : found (slots_of o) (find test held) ≡ 1 = rw f one in
            absurd (omega (arith, weighs, found-le (slots_of o) test held))
        | false ↦ λ _ later f. found_only o test held slot (omega arith) f is
      ]) refl once e
    ]) some

-- where no slot of the operation weighs, none is held
pub none_of : (o : OpId) (held : List Slot) → total (slots_of o) held ≡ 0 → list_any (is_slot_of o) held ≡ false
none_of o held none = weigh_none (is_slot_of o) (slots_of o) (λ slot is. rw is (omega arith)) held none

-- its one slot is freed
pub freed_none : (o : OpId) (held : List Slot) (slot : Slot) (number : ℕ) → total (slots_of o) held ≡ 1 → find (has_number number) held ≡ Some slot → slot.op ≡ o → list_any (is_slot_of o) (less (has_number number) held) ≡ false
freed_none o held slot number one is is_for =
    let self : same_op o o ≡ true = same_op_self o in
    let passes : is_slot_of o slot ≡ true = rw is_for self in
    let weighs : slots_of o slot ≡ 1 = rw passes refl in
    let sum = total-less (slots_of o) (has_number number) held in
    let there : found (slots_of o) (find (has_number number) held) ≡ 1 = rw is weighs in
    none_of o (less (has_number number) held) (omega arith)

-- an operation has one meaning
pub one_op : (found : Option Op) (a b : Op) → found ≡ Some a → found ≡ Some b → a ≡ b
one_op found a b p q = cc

-- a delayed operation that is presented stands as a delayed request
asked_item : (board : Board) (on : ℕ) (o : OpId) (op : Op) (standing : List Carried) (item : Option Carried) → op_of board o ≡ Some op → same_command (command_of op) MemWrite ≡ false → AllByRecursion (RightKind board) standing
    → find (is_of o) standing ≡ item → presents_item board on (before (is_of o) standing) item ≡ true → (number : ℕ) × (find (is_of o) standing ≡ Some (Ask o number))
asked_item board on o op standing None is_op delayed right found presented = cc
asked_item board on o op standing (Some (Post p)) is_op delayed right found presented =
    let same : o ≡ p = same_op_true o p (find_passes (is_of o) standing (Post p) found) in
    let names : NamesOp board true p = Each-find (RightKind board) (is_of o) standing (Post p) right found in
    let is_op_too : op_of board p ≡ Some op = subst (λ q. op_of board q ≡ Some op) same is_op in
    let ops : names.op ≡ op = one_op (op_of board p) names.op op names.is_op is_op_too in
    let posted : same_command (command_of op) MemWrite ≡ true = subst (λ q. same_command (command_of q) MemWrite ≡ true) ops names.is_posted in
    let impossible : true ≡ false = sym posted ∙ delayed in
    cc
asked_item board on o op standing (Some (Ask p number)) is_op delayed right found presented =
    let same : o ≡ p = same_op_true o p (find_passes (is_of o) standing (Ask p number) found) in
    (number, found ∙ ap (λ q. Some (Ask q number)) (sym same))
asked_item board on o op standing (Some (Done p slot outcome)) is_op delayed right found presented = let e : false ≡ true = find_passes (is_of o) standing (Done p slot outcome) found in cc
asked_item board on o op standing (Some Room) is_op delayed right found presented = let e : false ≡ true = find_passes (is_of o) standing Room found in cc
asked_item board on o op standing (Some (Gone slot)) is_op delayed right found presented = let e : false ≡ true = find_passes (is_of o) standing (Gone slot) found in cc

-- the item of a delayed operation that a lane presents
pub asked_at : (board : Board) (h : List Event) (on : ℕ) (k : BridgeLane) (o : OpId) (op : Op) → Run board h → op_of board o ≡ Some op → same_command (command_of op) MemWrite ≡ false → wants board h on (ByLane k) o ≡ true
    → (number : ℕ) × (find (is_of o) (world_of board h k).standing ≡ Some (Ask o number))
asked_at board h on k o op run is_op delayed wanted =
    let standing : List Carried = (world_of board h k).standing in
    let presented : presents board on o standing ≡ true = (and_parts (end_of board k == on) (presents board on o standing) wanted).1 in
    asked_item board on o op standing (find (is_of o) standing) is_op delayed (RightKind-run board h k run).1 refl presented

-- its slot is held there, and its request stands by that slot's number
pub asked_for : (board : Board) (h : List Event) (k : BridgeLane) (o : OpId) (number : ℕ) → Run board h → find (is_of o) (world_of board h k).standing ≡ Some (Ask o number)
    → IsHeldFor (world_of board h k).held number o × (find (is_ask_of number) (world_of board h k).standing ≡ Some (Ask o number))
asked_for board h k o number run stands =
    let slots = Slots-run board h k run in
    ask_stands_first (world_of board h k).held (world_of board h k).standing (is_of o) number o slots.asks_standing stands

-- it passed the lane
pub passed_at : (board : Board) (h : List Event) (k : BridgeLane) (o : OpId) (number : ℕ) → Run board h → find (is_of o) (world_of board h k).standing ≡ Some (Ask o number) → Passed (world_of board h) o k
passed_at board h k o number run stands =
    let first = asked_for board h k o number run stands in
    record { number = number; held = first.0; stands = first.1 }

module _ (board : Board) (valid : IsValid board) (h : List Event) (run : Run board h) where
  -- each slot has one item
  pub has_item : (lane : BridgeLane) → AllByRecursion (HasOneItem (both (world_of board h) lane)) (world_of board h lane).held
  has_item lane = HasOneItem-each (both (world_of board h) lane) (Slots-run board h lane run)

  -- each slot is on the way of its operation
  pub reaches : (lane : BridgeLane) → AllByRecursion (Reaches board h lane) (world_of board h lane).held
  reaches lane = Reaches-run board (IsTree-valid board valid) (WellFormed-numbers board valid.well_formed) (WellFormed-single board valid.well_formed) h run lane

  -- a slot that is held for an operation
  pub record Own (lane : BridgeLane) (o : OpId) (slot : Slot) : Type 0 where
    pub found : find (is_slot_of o) (world_of board h lane).held ≡ Some slot
    pub is_for : slot.op ≡ o
    pub item : HasOneItem (both (world_of board h) lane) slot
    pub reach : Reaches board h lane slot

  -- it is found by any test that finds it
  pub own_by : (lane : BridgeLane) (o : OpId) (test : Slot → Bool) (slot : Slot) → find test (world_of board h lane).held ≡ Some slot → slot.op ≡ o → Own lane o slot
  own_by lane o test slot some is_for =
      let held : List Slot = (world_of board h lane).held in
      let reach = Each-find (Reaches board h lane) test held slot (reaches lane) some in
      let only : total (slots_of o) held ≡ 1 = subst (λ p. total (slots_of p) held ≡ 1) is_for reach.only in
      let self : same_op o o ≡ true = same_op_self o in
      let passes : is_slot_of o slot ≡ true = rw is_for self in
      record { found = found_only o test held slot (omega arith) some passes; is_for = is_for; item = Each-find (HasOneItem (both (world_of board h) lane)) test held slot (has_item lane) some; reach = reach }

  -- the slot of an operation
  pub own_of : (lane : BridgeLane) (o : OpId) (slot : Slot) → find (is_slot_of o) (world_of board h lane).held ≡ Some slot → Own lane o slot
  own_of lane o slot some = own_by lane o (is_slot_of o) slot some (same_op_true slot.op o (find_passes (is_slot_of o) (world_of board h lane).held slot some))

  -- a slot is found by its number
  pub by_number : (lane : BridgeLane) (test : Slot → Bool) (slot : Slot) → find test (world_of board h lane).held ≡ Some slot → find (has_number slot.number) (world_of board h lane).held ≡ Some slot
  by_number lane test slot is =
      let slots = Slots-run board h lane run in
      let N : Slot → Type 0 = λ s. find (has_number s.number) (world_of board h lane).held ≡ Some s in
      Each-find N test (world_of board h lane).held slot (Each-found_itself (world_of board h lane).held slots.once) is

  -- so is the slot of an operation
  pub own_number : (lane : BridgeLane) (o : OpId) (slot : Slot) → Own lane o slot → find (has_number slot.number) (world_of board h lane).held ≡ Some slot
  own_number lane o slot own = by_number lane (is_slot_of o) slot own.found

  -- whose turn an operation is, and that a lane that holds a slot for it is on its way
  pub record Stands (lane : BridgeLane) (o : OpId) (op : Op) : Type 0 where
    pub master : MasterAgent
    pub is_master : slice_get board.masters o.master ≡ Some master
    pub is_turn : turn_of board h o.master ≡ Some o
    pub on_way : list_any (same_lane lane) (way board op master.bus) ≡ true
    pub only : total (slots_of o) (world_of board h lane).held ≡ 1

  -- so it is of each slot
  pub stands_of : (lane : BridgeLane) (o : OpId) (op : Op) (slot : Slot) → op_of board o ≡ Some op → Own lane o slot → Stands lane o op
  stands_of lane o op slot is_op own =
      let is_op_too : op_of board o ≡ Some own.reach.op = subst (λ p. op_of board p ≡ Some own.reach.op) own.is_for own.reach.is_op in
      let ops : own.reach.op ≡ op = cc in
      record {
        master = own.reach.master;
        is_master = subst (λ p. slice_get board.masters p.master ≡ Some own.reach.master) own.is_for own.reach.is_master;
        is_turn = subst (λ p. turn_of board h p.master ≡ Some p) own.is_for own.reach.is_turn;
        on_way = subst (λ p. list_any (same_lane lane) (way board p own.reach.master.bus) ≡ true) ops own.reach.on_way;
        only = subst (λ p. total (slots_of p) (world_of board h lane).held ≡ 1) own.is_for own.reach.only;
      }

  -- a master's operations that are not its turn hold no slot
  pub no_slots : (o q : OpId) → turn_of board h o.master ≡ Some o → q.master ≡ o.master → same_op o q ≡ false → (lane : BridgeLane) → list_any (is_slot_of q) (world_of board h lane).held ≡ false
  no_slots o q is_turn masters other lane =
      let held : List Slot = (world_of board h lane).held in
      let P : Bool → Type 0 = λ b. list_any (is_slot_of q) held ≡ b → b ≡ false in
      (elim (list_any (is_slot_of q) held) as P [
        | true ↦ λ any.
            let at = any_some (is_slot_of q) held any in
            let own = own_of lane q at.0 at.1 in
            let turn : turn_of board h q.master ≡ Some q = subst (λ p. turn_of board h p.master ≡ Some p) own.is_for own.reach.is_turn in
            let turn_too : turn_of board h o.master ≡ Some q = subst (λ m. turn_of board h m ≡ Some q) masters turn in
            let one : o ≡ q = cc in
            let self : same_op o o ≡ true = same_op_self o in
            let apart : same_op o o ≡ false = subst (λ p. same_op o p ≡ false) (sym one) other in
            cc
        | false ↦ λ _. refl
      ]) refl
