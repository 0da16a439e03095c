-- Each arrival of a delayed request, a completion, or the word that a request was dropped lowers what is left.
use Rattle.std.proofs.Common.{◌≡◌, ℕ, ◌+◌, ◌*◌, ◌≤◌, Bool, true, false, cond, List, [], ◌∷◌, ◌++◌, length, Option, Some, None, is_some, refl, sym, ap, subst, ◌∙◌, arith}
use Rattle.std.specs.List.{find, list_any, AllByRecursion}
use Rattle.std.proofs.lemmas.Bool.{eqb-true}
use Rattle.std.proofs.lemmas.Bool.Decides.{nat_tests}
use Rattle.list_facts.specs.Lists.{less}
use Rattle.list_facts.proofs.FindLemmas.{find_passes}
use Rattle.pci_command.specs.declared.op_id.OpId.{OpId}
use Rattle.pci_command.specs.declared.op_id.Outcome.{Outcome}
use Rattle.pci_command.specs.declared.command.Command.TheVariants.{MemWrite}
use Rattle.pci_command.specs.Same.{same_command}
use Rattle.board_model.specs.declared.bridge.Lane.{Lane as BridgeLane}
use Rattle.board_model.specs.declared.op.Op.{Op}
use Rattle.board_model.specs.declared.board.Board.{Board}
use Rattle.board_model.specs.Requests.{op_of, command_of}
use Rattle.board_model.specs.Ways.{end_of, way, longest_way, lane_back}
use Rattle.board_model.specs.Valid.{IsValid}
use Rattle.board_model.proofs.form_laws.Laws.{IsTree-valid}
use Rattle.history_model.specs.declared.event.Mark.{Mark}
use Rattle.history_model.specs.declared.event.Mark.TheVariants.{Plain, Discard, Drop}
use Rattle.history_model.specs.declared.event.Event.{Event}
use Rattle.history_model.specs.declared.event.Event.TheVariants.{Arrive}
use Rattle.history_model.specs.declared.item.Carried.{Carried}
use Rattle.history_model.specs.declared.item.Carried.TheVariants.{Post, Ask, Done, Room, Gone}
use Rattle.history_model.specs.declared.item.Slot.{Slot}
use Rattle.history_model.specs.Lanes.{Both, is_done_for, has_number, Stands as Standing, Frees, Drops, effect_of}
use Rattle.history_model.specs.World.{World, both, world_of}
use Rattle.history_model.specs.Runs.{names, mark_of, mark_of_first, Run}
use Rattle.history_model.specs.Local.{is_ask_of, is_gone_of}
use Rattle.history_model.specs.Left.{is_slot_of, left_of}
use Rattle.law_lanes.specs.Slots.{IsHeldFor, AskNamed, DoneNamed, Slots, GoneHeld}
use Rattle.history_model.proofs.facts.BridgeLemmas.{flip, both_back, lane_back_back}
use Rattle.law_lanes.proofs.Laws.{Slots-run, GoneHeld-each}
use Rattle.list_facts.proofs.AnyLemmas.{any_none, any-push_here}
use Rattle.law_bound.specs.stages.Stages.{stage, stage_at}
use Rattle.law_bound.proofs.stages.Laws.{stage_ask_flies, stage_ask_stands, stage_done_flies, stage_done_stands, stage_gone_flies, ask_here, ask_back, drop_here, drop_back, done_here, done_back, frees_here, frees_back, others_of}
use Rattle.law_bound.proofs.reach.Laws.{Own, own_by, freed_none, Stands, stands_of}
use Rattle.history_model.proofs.facts.StoreLemmas.{discards_le, drops_le, discards_fall, drops_fall}
use Rattle.law_bound.proofs.changes.Laws.{entry_of, stands_still, frees_still, drops_still}
use Rattle.law_bound.specs.delayed.Delayed.{is_delayed_first}
use Rattle.history_model.proofs.facts.PathLemmas.{way_behind, way_at_most}
use Rattle.law_bound.proofs.delayed.ArriveLemmas.{new_here, new_there, arrive_lowers, grown, falls_here, rises_here, falls_there, rises_there}
use Rattle.law_bound.proofs.delayed.ArriveLemmas.{first_any}

-- what is found is there
held_some : (found : Option Slot) → is_some found ≡ true → (slot : Slot) × (found ≡ Some slot)
held_some None is = cc
held_some (Some slot) is = (slot, refl)

-- all that is known of a held slot
record Known (board : Board) (valid : IsValid board) (h : List Event) (run : Run board h) (lane : BridgeLane) (number : ℕ) (o : OpId) (slot : Slot) : Type 0 where
  own : Own board valid h run lane o slot
  op : Op
  is_op : op_of board o ≡ Some op
  delayed : same_command (command_of op) MemWrite ≡ false
  stands : Stands board valid h run lane o op
  numbers : slot.number ≡ number

-- by the number that an item names
known_of : (board : Board) (valid : IsValid board) (h : List Event) (run : Run board h) (lane : BridgeLane) (number : ℕ) (o : OpId) (held : IsHeldFor (world_of board h lane).held number o) → Known board valid h run lane number o held.slot
known_of board valid h run lane number o held =
    let own = own_by board valid h run lane o (has_number number) held.slot held.is_held held.is_for in
    let is_op : op_of board o ≡ Some own.reach.op = subst (λ p. op_of board p ≡ Some own.reach.op) own.is_for own.reach.is_op in
    record {
      own = own;
      op = own.reach.op;
      is_op = is_op;
      delayed = own.reach.delayed;
      stands = stands_of board valid h run lane o own.reach.op held.slot is_op own;
      numbers = eqb-true held.slot.number number (find_passes (has_number number) (world_of board h lane).held held.slot held.is_held);
    }

module _ (board : Board) (valid : IsValid board) (h : List Event) (lane : BridgeLane) (mark : Mark) (run : Run board (Arrive lane mark ∷ h)) (rest : List Carried) where
  -- the arrival
  abbrev event : Event
  event = Arrive lane mark

  -- the lane and the lane back before it
  abbrev x : Both
  x = both (world_of board h) lane

  -- what was on the lanes before it
  abbrev world : World
  world = world_of board h

  -- what is on the lanes after it
  abbrev new : World
  new = world_of board (Arrive lane mark ∷ h)

  -- the lane back, where the slots are whose completions come here
  abbrev back : BridgeLane
  back = lane_back lane

  -- it lowers what is left
  abbrev Lowers : Type 0
  Lowers = left_of board (Arrive lane mark ∷ h) + 1 ≤ left_of board h

  -- how the board marks what arrives
  marked : (item : Carried) → (world_of board h lane).flight ≡ item ∷ rest → mark_of board lane (world_of board h lane) item ≡ mark
  marked item is =
      let F : List Carried → Type 0 = λ flight. mark_of_first board lane (world_of board h lane) flight ≡ Some mark in
      let first : Some (mark_of board lane (world_of board h lane) item) ≡ Some mark = subst F is run.0 in
      cc

  -- the slots of the lane back, whose completions come on this lane
  slots_back : Slots (flip (both (world_of board h) lane))
  slots_back = subst Slots (both_back (world_of board h) lane) (Slots-run board h (lane_back lane) run.1)

  -- a delayed request
  module _ (o : OpId) (number : ℕ) (is : (world_of board h lane).flight ≡ Ask o number ∷ rest) where
    -- its slot is held on this lane
    ask_held : IsHeldFor (world_of board h lane).held number o
    ask_held =
        let slots = Slots-run board h lane run.1 in
        let named : AllByRecursion (AskNamed x.here.held) (Ask o number ∷ rest) = subst (AllByRecursion (AskNamed x.here.held)) is slots.asks_flying in
        named.0

    -- in flight it had brought its operation so far
    ask_old : (known : Known board valid h run.1 lane number o ask_held.slot) → stage_at board known.op o (world_of board h) lane ≡ 2
    ask_old known =
        let slot : Slot = ask_held.slot in
        let numbers : slot.number ≡ number = known.numbers in
        let self : is_ask_of slot.number (Ask o number) ≡ true = grind (arith, nat_tests) in
        let length_behind : ℕ = length (way board known.op (end_of board lane)) in
        ap (stage length_behind (world lane) (world back)) known.own.found ∙ stage_ask_flies x slot known.own.item length_behind (first_any (is_ask_of slot.number) (world lane).flight (Ask o number) rest is self)

    -- it comes to stand
    ask_stands_lowers : effect_of mark (Ask o number) ≡ Standing → Lowers
    ask_stands_lowers is_effect =
        let item : Carried = Ask o number in
        let held = ask_held in
        let slot : Slot = ask_held.slot in
        let known = known_of board valid h run.1 lane number o ask_held in
        let at = known.stands in
        let here = new_here board valid h lane mark run item rest is Standing is_effect in
        let held_new : (new lane).held ≡ (world lane).held = ap (λ (b : Both). b.here.held) here in
        let standing_new : (new lane).standing ≡ (world lane).standing ++ item ∷ [] = ap (λ (b : Both). b.here.standing) here in
        let own_new = own_by board valid (event ∷ h) run lane o (has_number number) slot (ap (find (has_number number)) held_new ∙ ask_held.is_held) ask_held.is_for in
        let numbers : slot.number ≡ number = known.numbers in
        let self : is_ask_of slot.number item ≡ true = grind (arith, nat_tests) in
        let length_behind : ℕ = length (way board known.op (end_of board lane)) in
        let stage_new : stage_at board known.op o new lane ≡ 3 =
        ap (stage length_behind (new lane) (new back)) own_new.found
        ∙ stage_ask_stands (both new lane) slot own_new.item length_behind (ap (list_any (is_ask_of slot.number)) standing_new ∙ any-push_here (is_ask_of slot.number) (world lane).standing item self) in
        let still = stands_still board h lane x item rest is (λ l. (refl, refl)) in
        let all_grown = grown board valid h lane mark run item rest is Standing is_effect still in
        let left = falls_here board valid h lane mark run item rest is Standing is_effect o known.op 1 at.master known.is_op at.is_master (ask_back o x rest o number is) (omega (arith, ask_old known)) at.on_way in
        arrive_lowers board valid h lane mark run item rest is Standing is_effect o known.op at.master known.is_op at.is_master known.delayed at.is_turn
        (λ p other. (ask_here p x rest o number is (others_of board valid h run.1 lane number o p held other), ask_back p x rest o number is)) still 1 0 0 0 left
        (omega (arith, discards_le board world new all_grown)) (omega (arith, drops_le board world new all_grown)) (omega arith)

    -- it is dropped: that costs less than the line of the board had in store
    ask_drops_lowers : effect_of mark (Ask o number) ≡ Drops number → list_any (names lane ((world_of board h lane).asks + 1)) board.drops ≡ true → Lowers
    ask_drops_lowers is_effect named =
        let item : Carried = Ask o number in
        let held = ask_held in
        let known = known_of board valid h run.1 lane number o ask_held in
        let at = known.stands in
        let here = new_here board valid h lane mark run item rest is (Drops number) is_effect in
        let one : (new lane).asks ≡ (world lane).asks + 1 = ap (λ (b : Both). b.here.asks) here in
        let still = drops_still board h lane x item rest is (λ l. (refl, refl)) number in
        let all_grown = grown board valid h lane mark run item rest is (Drops number) is_effect still in
        let left = rises_here board valid h lane mark run item rest is (Drops number) is_effect o known.op 2 at.master known.is_op at.is_master (drop_back o x rest o number is) (omega (arith, ask_old known)) in
        arrive_lowers board valid h lane mark run item rest is (Drops number) is_effect o known.op at.master known.is_op at.is_master known.delayed at.is_turn
        (λ p other. (drop_here p x rest o number is (others_of board valid h run.1 lane number o p held other), drop_back p x rest o number is)) still 0 2 0 3 left
        (omega (arith, discards_le board world new all_grown)) (drops_fall board world new all_grown lane one named) (omega arith)

    -- as the board marks it
    ask_lowers : Lowers
    ask_lowers =
        let by_mark = marked (Ask o number) is in
        let P : Bool → Type 0 = λ b. list_any (names lane ((world_of board h lane).asks + 1)) board.drops ≡ b → cond b Drop Plain ≡ mark → Lowers in
        (elim (list_any (names lane ((world_of board h lane).asks + 1)) board.drops) as P [
          | true ↦ λ named e. ask_drops_lowers (ap (λ m. effect_of m (Ask o number)) (sym e)) named
          | false ↦ λ _ e. ask_stands_lowers (ap (λ m. effect_of m (Ask o number)) (sym e))
        ]) refl by_mark

  -- a slot of the lane back is freed
  module _ (item : Carried) (number : ℕ) (is : (world_of board h lane).flight ≡ item ∷ rest) (is_effect : effect_of mark item ≡ Frees number) (o : OpId) (held : IsHeldFor (world_of board h (lane_back lane)).held number o)
      (known : Known board valid h run.1 (lane_back lane) number o held.slot) where
    -- afterwards nothing is held there for the operation
    freed_new : stage_at board known.op o (world_of board (Arrive lane mark ∷ h)) (lane_back lane) ≡ 1
    freed_new =
        let there = new_there board valid h lane mark run item rest is (Frees number) is_effect in
        let held_new : (new back).held ≡ less (has_number number) (world back).held = ap (λ (b : Both). b.here.held) there in
        let none = any_none (is_slot_of o) (less (has_number number) (world back).held) (freed_none o (world back).held held.slot number known.stands.only held.is_held held.is_for) in
        ap (stage (length (way board known.op (end_of board back))) (new back) (new (lane_back back))) (ap (find (is_slot_of o)) held_new ∙ none)

  -- the lane back of the lane back is the lane
  flight_back : (item : Carried) → (world_of board h lane).flight ≡ item ∷ rest → (world_of board h (lane_back (lane_back lane))).flight ≡ item ∷ rest
  flight_back item is = ap (λ l. (world_of board h l).flight) (lane_back_back lane) ∙ is

  -- a completion
  module _ (o : OpId) (number : ℕ) (outcome : Outcome) (is : (world_of board h lane).flight ≡ Done o number outcome ∷ rest) where
    -- its slot is held on the lane back
    done_held : IsHeldFor (world_of board h (lane_back lane)).held number o
    done_held =
        let slots = slots_back in
        let named : AllByRecursion (DoneNamed x.back.held) (Done o number outcome ∷ rest) = subst (AllByRecursion (DoneNamed x.back.held)) is slots.dones_flying in
        named.0

    -- in flight it had brought its operation so far
    done_old : (known : Known board valid h run.1 (lane_back lane) number o done_held.slot) → stage_at board known.op o (world_of board h) (lane_back lane) ≡ 4 * length (way board known.op (end_of board (lane_back lane))) + 4
    done_old known =
        let slot : Slot = done_held.slot in
        let numbers : slot.number ≡ number = known.numbers in
        let self : is_done_for slot.number (Done o number outcome) ≡ true = grind (arith, nat_tests) in
        let length_behind : ℕ = length (way board known.op (end_of board back)) in
        ap (stage length_behind (world back) (world (lane_back back))) known.own.found
        ∙ stage_done_flies (both world back) slot known.own.item length_behind (first_any (is_done_for slot.number) (world (lane_back back)).flight (Done o number outcome) rest (flight_back (Done o number outcome) is) self)

    -- it comes to stand
    done_stands_lowers : effect_of mark (Done o number outcome) ≡ Standing → Lowers
    done_stands_lowers is_effect =
        let item : Carried = Done o number outcome in
        let held = done_held in
        let slot : Slot = done_held.slot in
        let known = known_of board valid h run.1 back number o done_held in
        let at = known.stands in
        let there = new_there board valid h lane mark run item rest is Standing is_effect in
        let held_new : (new back).held ≡ (world back).held = ap (λ (b : Both). b.here.held) there in
        let standing_new : (new (lane_back back)).standing ≡ (world lane).standing ++ item ∷ [] = ap (λ (b : Both). b.back.standing) there in
        let own_new = own_by board valid (event ∷ h) run back o (has_number number) slot (ap (find (has_number number)) held_new ∙ done_held.is_held) done_held.is_for in
        let numbers : slot.number ≡ number = known.numbers in
        let self : is_done_for slot.number item ≡ true = grind (arith, nat_tests) in
        let length_behind : ℕ = length (way board known.op (end_of board back)) in
        let stage_new : stage_at board known.op o new back ≡ 4 * length_behind + 5 =
        ap (stage length_behind (new back) (new (lane_back back))) own_new.found
        ∙ stage_done_stands (both new back) slot own_new.item length_behind (ap (list_any (is_done_for slot.number)) standing_new ∙ any-push_here (is_done_for slot.number) (world lane).standing item self) in
        let still = stands_still board h lane x item rest is (λ l. (refl, refl)) in
        let all_grown = grown board valid h lane mark run item rest is Standing is_effect still in
        let left = falls_there board valid h lane mark run item rest is Standing is_effect o known.op 1 at.master known.is_op at.is_master (done_here o x rest o number outcome is) (omega (arith, done_old known)) at.on_way in
        arrive_lowers board valid h lane mark run item rest is Standing is_effect o known.op at.master known.is_op at.is_master known.delayed at.is_turn
        (λ p other. (done_here p x rest o number outcome is, done_back p x rest o number outcome is (others_of board valid h run.1 back number o p held other))) still 1 0 0 0 left
        (omega (arith, discards_le board world new all_grown)) (omega (arith, drops_le board world new all_grown)) (omega arith)

    -- it is discarded: that costs less than the line of the board had in store
    done_frees_lowers : effect_of mark (Done o number outcome) ≡ Frees number → list_any (names lane ((world_of board h lane).dones + 1)) board.discards ≡ true → Lowers
    done_frees_lowers is_effect named =
        let item : Carried = Done o number outcome in
        let held = done_held in
        let known = known_of board valid h run.1 back number o done_held in
        let at = known.stands in
        let tree = IsTree-valid board valid in
        let here = new_here board valid h lane mark run item rest is (Frees number) is_effect in
        let one : (new lane).dones ≡ (world lane).dones + 1 = ap (λ (b : Both). b.here.dones) here in
        let length_behind : ℕ = length (way board known.op (end_of board back)) in
        let still = frees_still board h lane x item rest is (λ l. (refl, refl)) number in
        let all_grown = grown board valid h lane mark run item rest is (Frees number) is_effect still in
        let stage_new = freed_new item number is is_effect o done_held known in
        let left = rises_there board valid h lane mark run item rest is (Frees number) is_effect o known.op (4 * length_behind + 3) at.master known.is_op at.is_master (frees_here o x rest item number is (λ _. refl)) (omega (arith, done_old known)) in
        let entry = entry_of board o known.op at.master known.is_op at.is_master in
        let longest = way_at_most board o known.op at.master at.is_master entry.there in
        let behind = way_behind board known.op tree back (way board known.op at.master.bus) at.master.bus refl at.on_way in
        arrive_lowers board valid h lane mark run item rest is (Frees number) is_effect o known.op at.master known.is_op at.is_master known.delayed at.is_turn
        (λ p other. (frees_here p x rest item number is (λ _. refl), frees_back p x rest item number is (λ n e. e) (λ _ _. refl) (others_of board valid h run.1 back number o p held other))) still
        0 (4 * length_behind + 3) (4 * longest_way board) 0 left
        (discards_fall board world new all_grown lane one named) (omega (arith, drops_le board world new all_grown)) (omega arith)

    -- as the board marks it
    done_lowers : Lowers
    done_lowers =
        let by_mark = marked (Done o number outcome) is in
        let P : Bool → Type 0 = λ b. list_any (names lane ((world_of board h lane).dones + 1)) board.discards ≡ b → cond b Discard Plain ≡ mark → Lowers in
        (elim (list_any (names lane ((world_of board h lane).dones + 1)) board.discards) as P [
          | true ↦ λ named e. done_frees_lowers (ap (λ m. effect_of m (Done o number outcome)) (sym e)) named
          | false ↦ λ _ e. done_stands_lowers (ap (λ m. effect_of m (Done o number outcome)) (sym e))
        ]) refl by_mark

  -- the word that a request was dropped
  gone_lowers : (number : ℕ) → (world_of board h lane).flight ≡ Gone number ∷ rest → Lowers
  gone_lowers number is =
      let item : Carried = Gone number in
      let slots = slots_back in
      let named : AllByRecursion (GoneHeld x.back.held) (Gone number ∷ rest) = subst (AllByRecursion (GoneHeld x.back.held)) is (GoneHeld-each (flip x) slots) in
      let found = held_some (find (has_number number) (world back).held) named.0 in
      let slot : Slot = found.0 in
      let o : OpId = slot.op in
      let held : IsHeldFor (world back).held number o = record { slot = slot; is_held = found.1; is_for = refl } in
      let known = known_of board valid h run.1 back number o held in
      let at = known.stands in
      let numbers : slot.number ≡ number = known.numbers in
      let self : is_gone_of slot.number item ≡ true = grind (arith, nat_tests) in
      let length_behind : ℕ = length (way board known.op (end_of board back)) in
      let stage_old : stage_at board known.op o world back ≡ 0 =
      ap (stage length_behind (world back) (world (lane_back back))) known.own.found
      ∙ stage_gone_flies (both world back) slot known.own.item length_behind (first_any (is_gone_of slot.number) (world (lane_back back)).flight item rest (flight_back item is) self) in
      let still = frees_still board h lane x item rest is (λ l. (refl, refl)) number in
      let all_grown = grown board valid h lane mark run item rest is (Frees number) refl still in
      let stage_new = freed_new item number is refl o held known in
      let left = falls_there board valid h lane mark run item rest is (Frees number) refl o known.op 1 at.master known.is_op at.is_master (frees_here o x rest item number is (λ _. refl)) (omega arith) at.on_way in
      arrive_lowers board valid h lane mark run item rest is (Frees number) refl o known.op at.master known.is_op at.is_master known.delayed at.is_turn
      (λ p other. (frees_here p x rest item number is (λ _. refl), frees_back p x rest item number is (λ _ _. refl) (λ n e. e) (others_of board valid h run.1 back number o p held other))) still 1 0 0 0 left
      (omega (arith, discards_le board world new all_grown)) (omega (arith, drops_le board world new all_grown)) (omega arith)

-- by what arrives
arrival_by : (board : Board) (valid : IsValid board) (h : List Event) (lane : BridgeLane) (mark : Mark) (run : Run board (Arrive lane mark ∷ h)) (flight : List Carried) → (world_of board h lane).flight ≡ flight → is_delayed_first flight ≡ true
    → left_of board (Arrive lane mark ∷ h) + 1 ≤ left_of board h
arrival_by board valid h lane mark run [] is delayed = cc
arrival_by board valid h lane mark run (Post op ∷ rest) is delayed = cc
arrival_by board valid h lane mark run (Ask op slot ∷ rest) is delayed = ask_lowers board valid h lane mark run rest op slot is
arrival_by board valid h lane mark run (Done op slot outcome ∷ rest) is delayed = done_lowers board valid h lane mark run rest op slot outcome is
arrival_by board valid h lane mark run (Room ∷ rest) is delayed = cc
arrival_by board valid h lane mark run (Gone slot ∷ rest) is delayed = gone_lowers board valid h lane mark run rest slot is

-- each of these arrivals lowers what is left
pub arrival_lowers : (board : Board) (valid : IsValid board) (h : List Event) (lane : BridgeLane) (mark : Mark) → Run board (Arrive lane mark ∷ h) → is_delayed_first (world_of board h lane).flight ≡ true
    → left_of board (Arrive lane mark ∷ h) + 1 ≤ left_of board h
arrival_lowers board valid h lane mark run delayed = arrival_by board valid h lane mark run (world_of board h lane).flight refl delayed
