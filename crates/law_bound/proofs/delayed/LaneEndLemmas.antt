-- A delayed request that stands at the end of a lane ends there.
use Rattle.std.proofs.Common.{◌≡◌, ℕ, ◌+◌, ◌*◌, ◌≤◌, true, false, List, [], ◌∷◌, ◌++◌, length, Some, refl, sym, ap, subst, ◌∙◌, arith}
use Rattle.std.specs.List.{find, list_any}
use Rattle.std.proofs.lemmas.Bool.{eqb-true}
use Rattle.std.proofs.lemmas.Bool.Decides.{nat_tests}
use Rattle.list_facts.specs.Lists.{total}
use Rattle.list_facts.proofs.FindLemmas.{find_passes}
use Rattle.pci_command.specs.declared.op_id.OpId.{OpId}
use Rattle.pci_command.specs.declared.op_id.Outcome.{Outcome}
use Rattle.pci_command.specs.declared.command.Command.TheVariants.{MemWrite}
use Rattle.pci_command.specs.Same.{same_op, same_command}
use Rattle.board_model.specs.declared.agents.Master.{Master as MasterAgent}
use Rattle.board_model.specs.declared.bridge.Lane.{Lane as BridgeLane}
use Rattle.board_model.specs.declared.bridge.Place.{Place}
use Rattle.board_model.specs.declared.op.Op.{Op}
use Rattle.board_model.specs.declared.board.Board.{Board}
use Rattle.board_model.specs.Requests.{op_of, command_of}
use Rattle.board_model.specs.Ways.{end_of, way, lane_back}
use Rattle.board_model.specs.Valid.{IsValid}
use Rattle.history_model.specs.declared.event.By.TheVariants.{Lane as ByLane}
use Rattle.history_model.specs.declared.event.Step.{Step}
use Rattle.history_model.specs.declared.event.Event.{Event}
use Rattle.history_model.specs.declared.event.Event.TheVariants.{Act}
use Rattle.history_model.specs.declared.item.Carried.TheVariants.{Ask, Done}
use Rattle.history_model.specs.declared.item.Slot.{Slot}
use Rattle.history_model.specs.Lanes.{Both, is_of, is_done_for, has_number, reply_to, item_ends}
use Rattle.history_model.specs.World.{World, same_lane, both, moved, at_place, lane_outcome, leaves, world_of}
use Rattle.history_model.specs.Words.{parted_by}
use Rattle.history_model.specs.Answers.{stalls_by}
use Rattle.history_model.specs.Runs.{Run}
use Rattle.history_model.specs.Left.{delayed_left, left_of}
use Rattle.law_lanes.specs.Slots.{IsHeldFor}
use Rattle.history_model.proofs.facts.BridgeLemmas.{same_lane_self}
use Rattle.law_bound.proofs.reach.Laws.{Own, own_by, stands_of, asked_for}
use Rattle.list_facts.proofs.AnyLemmas.{any-push_here}
use Rattle.law_bound.specs.stages.Stages.{stage, stage_at}
use Rattle.law_bound.proofs.stages.Laws.{stage_done_flies, delayed_sum, Same, Others, ends_here, ends_back, moved_same, others_of}
use Rattle.history_model.proofs.facts.StoreLemmas.{discards_le, drops_le}
use Rattle.law_bound.proofs.changes.Laws.{moved_here, sum_up, Still, ends_still, moved_still, still_both, grown_still, own_stays, lowers}

module _ (board : Board) (valid : IsValid board) (h : List Event) (on : ℕ) (k : BridgeLane) (o : OpId) (op : Op) (step : Step) (place : Place) (outcome : Outcome)
    (run : Run board (Act on (ByLane k) o step place ∷ h)) (is_op : op_of board o ≡ Some op) (delayed : same_command (command_of op) MemWrite ≡ false)
    (parts : (p : OpId) → parted_by p (Act on (ByLane k) o step place) ≡ 0) (stalls : (target : ℕ) → stalls_by target (Act on (ByLane k) o step place) ≡ 0)
    (ends : lane_outcome board k o step ≡ Some outcome) (number : ℕ) (stands : find (is_of o) (world_of board h k).standing ≡ Some (Ask o number)) where
  -- the event
  abbrev event : Event
  event = Act on (ByLane k) o step place

  -- what was on the lanes before it
  abbrev world : World
  world = world_of board h

  -- what is on the lanes after it
  abbrev new : World
  new = world_of board (Act on (ByLane k) o step place ∷ h)

  -- what the event did where it was claimed, before it ended at the lane
  module _ (mid : World) (is_mid : at_place board on (ByLane k) o step place (world_of board h) ≡ mid) (held_same : (mid k).held ≡ (world_of board h k).held)
      (stands_same : find (is_of o) (mid k).standing ≡ find (is_of o) (world_of board h k).standing)
      (others_same : (p : OpId) → same_op o p ≡ false → (l : BridgeLane) → Same p (both (world_of board h) l) (both mid l))
      (still_mid : (l : BridgeLane) → Still board h l (world_of board h l) (mid l)) where
    -- what ending at the lane makes of that
    abbrev last : World
    last = moved (item_ends o outcome) k mid

    -- that is what is on the lanes after the event
    is_new : world_of board (Act on (ByLane k) o step place ∷ h) ≡ last
    is_new = ap (λ w. leaves k o (lane_outcome board k o step) w) is_mid ∙ ap (λ y. leaves k o y mid) ends

    -- the request still stands
    stands_mid : find (is_of o) (mid k).standing ≡ Some (Ask o number)
    stands_mid = stands_same ∙ stands

    -- its slot is held
    held_for : IsHeldFor (world_of board h k).held number o
    held_for = (asked_for board h k o number run.1 stands).0

    -- the slot at the lane, before and after
    abbrev slot : Slot
    slot = held_for.slot

    -- the slot is still held afterwards
    found_new : find (has_number number) (new k).held ≡ Some held_for.slot
    found_new =
        let here : both last k ≡ item_ends o outcome (both mid k) = moved_here (item_ends o outcome) k mid in
        let held_new : (new k).held ≡ (world k).held = ap (λ (w : World). (w k).held) is_new ∙ ap (λ (x : Both). x.here.held) here ∙ held_same in
        ap (find (has_number number)) held_new ∙ held_for.is_held

    -- it is the slot of the operation afterwards
    own_new : Own board valid (Act on (ByLane k) o step place ∷ h) run k o held_for.slot
    own_new = own_by board valid (Act on (ByLane k) o step place ∷ h) run k o (has_number number) held_for.slot found_new held_for.is_for

    -- and was before
    own_old : Own board valid h run.1 k o held_for.slot
    own_old = own_by board valid h run.1 k o (has_number number) held_for.slot held_for.is_held held_for.is_for

    -- its completion is in flight on the lane back
    stage_new : stage_at board op o (world_of board (Act on (ByLane k) o step place ∷ h)) k ≡ 4 * length (way board op (end_of board k)) + 4
    stage_new =
        let here : both last k ≡ item_ends o outcome (both mid k) = moved_here (item_ends o outcome) k mid in
        let sent : (new (lane_back k)).flight ≡ (mid (lane_back k)).flight ++ reply_to outcome (find (is_of o) (mid k).standing) = ap (λ (w : World). (w (lane_back k)).flight) is_new ∙ ap (λ (x : Both). x.back.flight) here in
        let done : (new (lane_back k)).flight ≡ (mid (lane_back k)).flight ++ Done o number outcome ∷ [] = sent ∙ ap (λ found. (mid (lane_back k)).flight ++ reply_to outcome found) stands_mid in
        let numbers : held_for.slot.number ≡ number = eqb-true held_for.slot.number number (find_passes (has_number number) (world k).held held_for.slot held_for.is_held) in
        let self : is_done_for held_for.slot.number (Done o number outcome) ≡ true = grind (arith, nat_tests) in
        let flies : list_any (is_done_for held_for.slot.number) (new (lane_back k)).flight ≡ true =
        ap (list_any (is_done_for held_for.slot.number)) done ∙ any-push_here (is_done_for held_for.slot.number) (mid (lane_back k)).flight (Done o number outcome) self in
        let rest : ℕ = length (way board op (end_of board k)) in
        ap (stage rest (new k) (new (lane_back k))) own_new.found ∙ stage_done_flies (both new k) held_for.slot own_new.item rest flies

    -- for other operations every lane is as it was
    others_new : (p : OpId) → same_op o p ≡ false → (l : BridgeLane) → Same p (both (world_of board h) l) (both (world_of board (Act on (ByLane k) o step place ∷ h)) l)
    others_new p other l =
        let x : Both = both mid k in
        let apart : Others p (mid k).held number = subst (λ held. Others p held number) (sym held_same) (others_of board valid h run.1 k number o p held_for other) in
        let second : Same p (both mid l) (both last l) =
        moved_same p (λ _. false) (item_ends o outcome) k mid (λ _. ends_here p x o outcome number stands_mid apart) (λ _. ends_back p x o outcome number stands_mid) l refl in
        let both_moves : Same p (both world l) (both last l) = λ rest. second rest ∙ others_same p other l rest in
        subst (λ w. Same p (both world l) (both w l)) (sym is_new) both_moves

    -- posted writes and credits weigh no more
    still_new : (l : BridgeLane) → Still board h l (world_of board h l) (world_of board (Act on (ByLane k) o step place ∷ h) l)
    still_new l =
        let second = moved_still board h (item_ends o outcome) k mid (ends_still board h k o outcome number (both mid k) stands_mid) l in
        subst (λ (w : World). Still board h l (world l) (w l)) (sym is_new) (still_both board h l (world l) (mid l) (last l) (still_mid l) second)

    -- the lane brought it further than what the event did where it was claimed took back
    pub lane_end_lowers : (d : ℕ) → stage_at board op o mid k ≡ 3 → d ≤ 4 * length (way board op (end_of board k))
        → ((master : MasterAgent) → total (stage_at board op o (world_of board h)) (way board op master.bus) ≤ total (stage_at board op o mid) (way board op master.bus) + d)
        → left_of board (Act on (ByLane k) o step place ∷ h) + 1 ≤ left_of board h
    lane_end_lowers d three few falls =
        let there = stands_of board valid h run.1 k o op held_for.slot is_op own_old in
        let master : MasterAgent = there.master in
        let lanes : List BridgeLane = way board op master.bus in
        let x : Both = both mid k in
        let same_but : (l : BridgeLane) → same_lane k l ≡ false → Same o (both mid l) (both last l) =
        moved_same o (same_lane k) (item_ends o outcome) k mid (λ none. let self = same_lane_self k in cc) (λ _. ends_back o x o outcome number stands_mid) in
        let stage_last : stage_at board op o last k ≡ 4 * length (way board op (end_of board k)) + 4 = subst (λ w. stage_at board op o w k ≡ 4 * length (way board op (end_of board k)) + 4) is_new stage_new in
        let further = sum_up board op o mid last k (4 * length (way board op (end_of board k)) + 1) same_but (omega arith) lanes there.on_way in
        let sum_new : total (stage_at board op o last) lanes ≡ total (stage_at board op o new) lanes = ap (λ w. total (stage_at board op o w) lanes) (sym is_new) in
        let old_sum = delayed_sum board valid h run.1 o op master is_op there.is_master in
        let new_sum = delayed_sum board valid (Act on (ByLane k) o step place ∷ h) run o op master is_op there.is_master in
        let left : delayed_left new o lanes + 1 ≤ delayed_left world o lanes + 0 = omega (arith, old_sum, new_sum, further, falls master, sum_new, few) in
        let own = own_stays board valid h event run parts o op master is_op there.is_master delayed (λ i _. refl) others_new 1 0 there.is_turn there.is_turn left in
        let grown = grown_still board h world new still_new in
        lowers board valid h event run parts o op master is_op there.is_master delayed (λ i _. refl) others_new stalls still_new 1 0 0 0 own
        (omega (arith, discards_le board world new grown)) (omega (arith, drops_le board world new grown)) (omega arith)
