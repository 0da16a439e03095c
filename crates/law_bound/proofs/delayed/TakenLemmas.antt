-- A completion is taken: its slot is freed, by its lane, or by its master.
use Rattle.std.proofs.Common.{◌≡◌, ℕ, ◌+◌, ◌*◌, ◌≤◌, Bool, true, false, List, ◌∷◌, length, Some, refl, ap, ◌∙◌, arith}
use Rattle.std.specs.List.{find, list_any, IsDistinct}
use Rattle.list_facts.specs.Lists.{less, total}
use Rattle.list_facts.proofs.FindLemmas.{find-less_other}
use Rattle.pci_command.specs.declared.op_id.OpId.{OpId}
use Rattle.pci_command.specs.declared.op_id.Outcome.{Outcome}
use Rattle.pci_command.specs.Same.{same_op}
use Rattle.board_model.specs.declared.bridge.Lane.{Lane as BridgeLane}
use Rattle.board_model.specs.declared.bridge.Place.TheVariants.{Lane}
use Rattle.board_model.specs.declared.op.Op.{Op}
use Rattle.board_model.specs.declared.board.Board.{Board}
use Rattle.board_model.specs.Requests.{op_of}
use Rattle.board_model.specs.Ways.{end_of, way, lane_back}
use Rattle.board_model.specs.Valid.{IsValid}
use Rattle.board_model.specs.form_laws.WayEnds.{same_bridge}
use Rattle.history_model.specs.declared.event.By.{By}
use Rattle.history_model.specs.declared.event.Step.TheVariants.{Take}
use Rattle.history_model.specs.declared.event.Event.{Event}
use Rattle.history_model.specs.declared.event.Event.TheVariants.{Act}
use Rattle.history_model.specs.declared.item.Carried.{Carried}
use Rattle.history_model.specs.declared.item.Carried.TheVariants.{Post, Ask, Done, Room, Gone}
use Rattle.history_model.specs.Lanes.{Both, is_of, is_done_for, has_number, slot_taken}
use Rattle.history_model.specs.World.{World, same_lane, both, put, moved, is_own, slot_found, at_place, world_of}
use Rattle.history_model.specs.Runs.{Run}
use Rattle.history_model.specs.Left.{is_slot_of}
use Rattle.law_lanes.specs.Slots.{IsHeldFor}
use Rattle.law_lanes.specs.Owners.{TakesItsOwn}
use Rattle.history_model.proofs.facts.BridgeLemmas.{same_lane_true, same_lane_self, moved_gives, moved_keeps}
use Rattle.law_lanes.proofs.Laws.{WellFormed-numbers, WellFormed-single, TakesItsOwn-run}
use Rattle.list_facts.proofs.AnyLemmas.{any_none, find_any, any-less_none}
use Rattle.law_bound.specs.stages.Stages.{stage, stage_at}
use Rattle.law_bound.proofs.stages.Laws.{stage_done_stands, Same, taken_here, taken_back, moved_same, others_of}
use Rattle.law_bound.proofs.reach.Laws.{Own, own_by, freed_none, own_number, Stands, stands_of}
use Rattle.law_bound.proofs.changes.Laws.{moved_here, sum_down, Still, taken_still, moved_still}

-- a completion is no request
done_not_of : (number : ℕ) (o : OpId) (item : Carried) → is_done_for number item ≡ true → is_of o item ≡ false
done_not_of number o (Post op) is = cc
done_not_of number o (Ask op slot) is = cc
done_not_of number o (Done op slot outcome) is = refl
done_not_of number o Room is = refl
done_not_of number o (Gone slot) is = refl

module _ (board : Board) (valid : IsValid board) (h : List Event) (on : ℕ) (by : By) (o : OpId) (op : Op) (outcome : Outcome) (lane : BridgeLane)
    (run : Run board (Act on by o (Take outcome) (Lane lane) ∷ h)) (is_op : op_of board o ≡ Some op) where
  -- the completion is of the own slot, which was latched for the operation
  pub takes : TakesItsOwn board h on by o outcome lane
  takes = TakesItsOwn-run board h on by o outcome lane (WellFormed-numbers board valid.well_formed) (WellFormed-single board valid.well_formed) run

  -- the slot is held for the operation
  own : Own board valid h run.1 lane o takes.slot
  own = own_by board valid h run.1 lane o (is_own board on by o) takes.slot takes.is_own_slot takes.is_for

  -- by its number
  held_for : IsHeldFor (world_of board h lane).held takes.slot.number o
  held_for = record { slot = takes.slot; is_held = own_number board valid h run.1 lane o takes.slot own; is_for = takes.is_for }

  -- the lane is on the way of the operation
  there : Stands board valid h run.1 lane o op
  there = stands_of board valid h run.1 lane o op takes.slot is_op own

  -- the world after the slot is freed
  abbrev pub mid : World
  mid = moved (slot_taken takes.slot.number) lane (world_of board h)

  -- the event makes it where it is claimed
  pub is_mid : at_place board on by o (Take outcome) (Lane lane) (world_of board h) ≡ mid
  is_mid = ap (λ slot. put (world_of board h) lane (slot_found slot (both (world_of board h) lane))) takes.is_own_slot

  -- for other operations every lane is as it was
  pub others_mid : (p : OpId) → same_op o p ≡ false → (l : BridgeLane) → Same p (both (world_of board h) l) (both mid l)
  others_mid p other l =
      let x : Both = both (world_of board h) lane in
      moved_same p (λ _. false) (slot_taken takes.slot.number) lane (world_of board h)
      (λ _. taken_here p x takes.slot.number (others_of board valid h run.1 lane takes.slot.number o p held_for other)) (λ _. taken_back p x takes.slot.number) l refl

  -- posted writes and credits weigh no more
  pub still_mid : (l : BridgeLane) → Still board h l (world_of board h l) (mid l)
  still_mid l = moved_still board h (slot_taken takes.slot.number) lane (world_of board h) (taken_still board h lane takes.slot.number (both (world_of board h) lane)) l

  -- no slot comes to be held
  pub none_mid : (q : OpId) → ((l : BridgeLane) → list_any (is_slot_of q) (world_of board h l).held ≡ false) → (l : BridgeLane) → list_any (is_slot_of q) (mid l).held ≡ false
  none_mid q none l =
      let P : BridgeLane → Both → Type 0 = λ k y. list_any (is_slot_of q) y.here.held ≡ false in
      moved_keeps P (slot_taken takes.slot.number) lane (world_of board h) none (any-less_none (is_slot_of q) (has_number takes.slot.number) (world_of board h lane).held (none lane)) (none (lane_back lane)) l

  -- how far the lane had brought the operation, and that it holds nothing for it afterwards
  stage_old : stage_at board op o (world_of board h) lane ≡ 4 * length (way board op (end_of board lane)) + 5
  stage_old =
      let rest : ℕ = length (way board op (end_of board lane)) in
      let stands : list_any (is_done_for takes.slot.number) (world_of board h (lane_back lane)).standing ≡ true = find_any (is_done_for takes.slot.number) (world_of board h (lane_back lane)).standing (Done o takes.slot.number outcome) takes.stands in
      ap (stage rest (world_of board h lane) (world_of board h (lane_back lane))) own.found ∙ stage_done_stands (both (world_of board h) lane) takes.slot own.item rest stands

  -- afterwards it holds none
  stage_mid : stage_at board op o mid lane ≡ 1
  stage_mid =
      let rest : ℕ = length (way board op (end_of board lane)) in
      let held : (mid lane).held ≡ less (has_number takes.slot.number) (world_of board h lane).held = ap (λ (x : Both). x.here.held) (moved_here (slot_taken takes.slot.number) lane (world_of board h)) in
      let none = any_none (is_slot_of o) (less (has_number takes.slot.number) (world_of board h lane).held) (freed_none o (world_of board h lane).held takes.slot takes.slot.number there.only (own_number board valid h run.1 lane o takes.slot own) takes.is_for) in
      ap (stage rest (mid lane) (mid (lane_back lane))) (ap (find (is_slot_of o)) held ∙ none)

  -- on every other lane nothing changes for the operation
  same_mid : (l : BridgeLane) → same_lane lane l ≡ false → Same o (both (world_of board h) l) (both mid l)
  same_mid =
      let x : Both = both (world_of board h) lane in
      moved_same o (same_lane lane) (slot_taken takes.slot.number) lane (world_of board h) (λ none. let self = same_lane_self lane in cc) (λ _. taken_back o x takes.slot.number)

  -- so much less far is the operation
  pub sum_mid : (lanes : List BridgeLane) → IsDistinct same_bridge lanes → total (stage_at board op o (world_of board h)) lanes ≤ total (stage_at board op o mid) lanes + (4 * length (way board op (end_of board lane)) + 4)
  sum_mid lanes distinct =
      let old = stage_old in
      let new = stage_mid in
      sum_down board op o (world_of board h) mid lane (4 * length (way board op (end_of board lane)) + 4) same_mid (omega arith) lanes distinct

  -- by a lane: its own request ends as it takes
  module _ (k : BridgeLane) (passed_three : stage_at board op o (world_of board h) k ≡ 3) where
    -- the lane that takes is another
    pub apart : same_lane lane k ≡ false
    apart =
        let old = stage_old in
        let P : Bool → Type 0 = λ b. same_lane lane k ≡ b → b ≡ false in
        (elim (same_lane lane k) as P [
          | true ↦ λ same.
              let one : lane ≡ k = same_lane_true lane k same in
              let stages : stage_at board op o (world_of board h) lane ≡ stage_at board op o (world_of board h) k = ap (stage_at board op o (world_of board h)) one in
              absurd (omega arith)
          | false ↦ λ _. refl
        ]) refl

    -- its slots are as they were
    pub held_same : (mid k).held ≡ (world_of board h k).held
    held_same =
        let P : BridgeLane → Both → Type 0 = λ j y. same_lane lane j ≡ false → y.here.held ≡ (world_of board h j).held in
        moved_gives P (slot_taken takes.slot.number) lane (world_of board h) (λ j _ _. refl) (λ none. let self = same_lane_self lane in cc) (λ _. refl) k apart

    -- its request stands as it did
    pub stands_same : find (is_of o) (mid k).standing ≡ find (is_of o) (world_of board h k).standing
    stands_same =
        let P : BridgeLane → Both → Type 0 = λ j y. find (is_of o) y.here.standing ≡ find (is_of o) (world_of board h j).standing in
        moved_keeps P (slot_taken takes.slot.number) lane (world_of board h) (λ j. refl) refl
        (find-less_other (is_done_for takes.slot.number) (is_of o) (done_not_of takes.slot.number o) (world_of board h (lane_back lane)).standing) k

    -- and it has brought the operation as far
    pub stage_k : stage_at board op o mid k ≡ 3
    stage_k = same_mid k apart (length (way board op (end_of board k))) ∙ passed_three
