-- A delayed request is latched.
use Rattle.std.proofs.Common.{◌≡◌, ℕ, ◌+◌, ◌≤◌, true, false, List, [], ◌∷◌, ◌++◌, length, Some, refl, sym, ap, subst, ◌∙◌, arith}
use Rattle.std.specs.List.{find, list_any}
use Rattle.std.proofs.lemmas.Bool.Decides.{nat_tests}
use Rattle.list_facts.specs.Lists.{total}
use Rattle.list_facts.proofs.TotalLemmas.{total-push}
use Rattle.list_facts.proofs.FindLemmas.{find-append_none}
use Rattle.pci_command.specs.declared.op_id.OpId.{OpId}
use Rattle.pci_command.specs.declared.command.Command.TheVariants.{MemWrite}
use Rattle.pci_command.specs.Same.{same_op, same_command}
use Rattle.board_model.specs.declared.bridge.Lane.{Lane as BridgeLane}
use Rattle.board_model.specs.declared.bridge.Place.{Place}
use Rattle.board_model.specs.declared.bridge.Place.TheVariants.{Lane}
use Rattle.board_model.specs.declared.op.Op.{Op}
use Rattle.board_model.specs.declared.board.Board.{Board}
use Rattle.board_model.specs.Requests.{op_of, command_of}
use Rattle.board_model.specs.Ways.{end_of, way, lane_back}
use Rattle.board_model.specs.Valid.{IsValid}
use Rattle.history_model.specs.declared.event.By.{By}
use Rattle.history_model.specs.declared.event.By.TheVariants.{Master, Lane as ByLane}
use Rattle.history_model.specs.declared.event.Step.TheVariants.{Latch}
use Rattle.history_model.specs.declared.event.Event.{Event}
use Rattle.history_model.specs.declared.event.Event.TheVariants.{Act}
use Rattle.history_model.specs.declared.item.Carried.TheVariants.{Ask}
use Rattle.history_model.specs.declared.item.Slot.{Slot}
use Rattle.history_model.specs.Lanes.{LaneState, Both, lowest_free, ask_enters}
use Rattle.history_model.specs.World.{World, same_lane, both, moved, world_of}
use Rattle.history_model.specs.Program.{turn_of}
use Rattle.history_model.specs.Words.{parted_by}
use Rattle.history_model.specs.Runs.{Run}
use Rattle.history_model.specs.Local.{is_ask_of}
use Rattle.history_model.specs.Left.{is_slot_of, delayed_left, left_of}
use Rattle.history_model.proofs.facts.BridgeLemmas.{same_lane_self}
use Rattle.history_model.proofs.facts.RequestLemmas.{same_op_self}
use Rattle.law_bound.specs.reach.Reach.{slots_of}
use Rattle.list_facts.proofs.AnyLemmas.{any_none, any_some, any-push_here}
use Rattle.law_bound.specs.stages.Stages.{stage, stage_at}
use Rattle.law_bound.proofs.reach.Laws.{own_of, none_of, Stands, stands_of}
use Rattle.law_bound.proofs.stages.Laws.{stage_none, delayed_sum, Same, latch_here, latch_back, moved_same}
use Rattle.history_model.proofs.facts.StoreLemmas.{discards_le, drops_le}
use Rattle.law_bound.proofs.changes.Laws.{moved_here, sum_up, Still, latch_still, moved_still, grown_still, own_stays, lowers}

-- what a latch does, whoever presented the operation
latch_world : (board : Board) (h : List Event) (on : ℕ) (by : By) (o : OpId) (lane : BridgeLane) → world_of board (Act on by o Latch (Lane lane) ∷ h) ≡ moved (ask_enters by o) lane (world_of board h)
latch_world board h on Master o lane = refl
latch_world board h on (ByLane k) o lane = refl

-- no turn changes
latch_turn : (board : Board) (h : List Event) (on : ℕ) (by : By) (o : OpId) (place : Place) (i : ℕ) → turn_of board (Act on by o Latch place ∷ h) i ≡ turn_of board h i
latch_turn board h on Master o place i = refl
latch_turn board h on (ByLane k) o place i = refl

-- a request in flight has brought its operation so far
flies : (rest : ℕ) (here back : LaneState) (slot : Slot) → list_any (is_ask_of slot.number) here.flight ≡ true → stage rest here back (Some slot) ≡ 2
flies rest here back slot is = rw is refl

module _ (board : Board) (valid : IsValid board) (h : List Event) (on : ℕ) (by : By) (o : OpId) (op : Op) (lane : BridgeLane)
    (run : Run board (Act on by o Latch (Lane lane) ∷ h)) (is_op : op_of board o ≡ Some op) (delayed : same_command (command_of op) MemWrite ≡ false)
    (parts : (p : OpId) → parted_by p (Act on by o Latch (Lane lane)) ≡ 0) where
  -- the event
  abbrev event : Event
  event = Act on by o Latch (Lane lane)

  -- what was on the lanes before it
  abbrev world : World
  world = world_of board h

  -- what is on the lanes after it
  abbrev new : World
  new = world_of board (Act on by o Latch (Lane lane) ∷ h)

  -- the same, by the move of the one bridge
  abbrev last : World
  last = moved (ask_enters by o) lane (world_of board h)

  -- the slot that comes to be held
  abbrev pushed : Slot
  pushed = record { number = lowest_free (world_of board h lane).held; by = by; op = o }

  -- the latch is that move
  is_new : world_of board (Act on by o Latch (Lane lane) ∷ h) ≡ last
  is_new = latch_world board h on by o lane

  -- one more slot is held
  held_new : (new lane).held ≡ (world lane).held ++ pushed ∷ []
  held_new = ap (λ (w : World). (w lane).held) is_new ∙ ap (λ (x : Both). x.here.held) (moved_here (ask_enters by o) lane world)

  -- it is held for the operation
  passes : is_slot_of o pushed ≡ true
  passes = same_op_self o

  -- so a slot is held for it
  some_new : (slot : Slot) × (find (is_slot_of o) (new lane).held ≡ Some slot)
  some_new = any_some (is_slot_of o) (new lane).held (ap (list_any (is_slot_of o)) held_new ∙ any-push_here (is_slot_of o) (world lane).held pushed passes)

  -- the lane is on its way, and this is its only slot there
  there : Stands board valid (Act on by o Latch (Lane lane) ∷ h) run lane o op
  there = let at = some_new in stands_of board valid (Act on by o Latch (Lane lane) ∷ h) run lane o op at.0 is_op (own_of board valid (Act on by o Latch (Lane lane) ∷ h) run lane o at.0 at.1)

  -- so none was held before
  none_old : list_any (is_slot_of o) (world_of board h lane).held ≡ false
  none_old =
      let one : total (slots_of o) ((world lane).held ++ pushed ∷ []) ≡ 1 = subst (λ held. total (slots_of o) held ≡ 1) held_new there.only in
      let weighs : slots_of o pushed ≡ 1 = let is = passes in rw is refl in
      none_of o (world lane).held (omega (arith, total-push (slots_of o) (world lane).held pushed))

  -- its request is in flight
  stage_new : stage_at board op o last lane ≡ 2
  stage_new =
      let rest : ℕ = length (way board op (end_of board lane)) in
      let here = moved_here (ask_enters by o) lane world in
      let held : (last lane).held ≡ (world lane).held ++ pushed ∷ [] = ap (λ (x : Both). x.here.held) here in
      let flight : (last lane).flight ≡ (world lane).flight ++ Ask o pushed.number ∷ [] = ap (λ (x : Both). x.here.flight) here in
      let alone : find (is_slot_of o) (pushed ∷ []) ≡ Some pushed = let is = passes in rw is refl in
      let found : find (is_slot_of o) (last lane).held ≡ Some pushed = ap (find (is_slot_of o)) held ∙ find-append_none (is_slot_of o) (world lane).held (pushed ∷ []) (any_none (is_slot_of o) (world lane).held none_old) ∙ alone in
      let self : is_ask_of pushed.number (Ask o pushed.number) ≡ true = grind (arith, nat_tests) in
      let in_flight : list_any (is_ask_of pushed.number) (last lane).flight ≡ true = ap (list_any (is_ask_of pushed.number)) flight ∙ any-push_here (is_ask_of pushed.number) (world lane).flight (Ask o pushed.number) self in
      ap (stage rest (last lane) (last (lane_back lane))) found ∙ flies rest (last lane) (last (lane_back lane)) pushed in_flight

  -- for other operations every lane is as it was
  others_new : (p : OpId) → same_op o p ≡ false → (l : BridgeLane) → Same p (both (world_of board h) l) (both (world_of board (Act on by o Latch (Lane lane) ∷ h)) l)
  others_new p other l =
      let x : Both = both world lane in
      subst (λ w. Same p (both world l) (both w l)) (sym is_new) (moved_same p (λ _. false) (ask_enters by o) lane world (λ _. latch_here p x by o other) (λ _. latch_back p x by o) l refl)

  -- posted writes and credits weigh no more
  still_new : (l : BridgeLane) → Still board h l (world_of board h l) (world_of board (Act on by o Latch (Lane lane) ∷ h) l)
  still_new l = subst (λ (w : World). Still board h l (world l) (w l)) (sym is_new) (moved_still board h (ask_enters by o) lane world (latch_still board h lane by o (both world lane)) l)

  -- so a latch lowers what is left
  pub latch_lowers : left_of board (Act on by o Latch (Lane lane) ∷ h) + 1 ≤ left_of board h
  latch_lowers =
      let at = there in
      let lanes : List BridgeLane = way board op at.master.bus in
      let x : Both = both world lane in
      let same_but : (l : BridgeLane) → same_lane lane l ≡ false → Same o (both world l) (both last l) =
      moved_same o (same_lane lane) (ask_enters by o) lane world (λ none. let self = same_lane_self lane in cc) (λ _. latch_back o x by o) in
      let one = stage_none board valid h run.1 o op lane none_old in
      let two = stage_new in
      let further = sum_up board op o world last lane 1 same_but (omega arith) lanes at.on_way in
      let sum_new : total (stage_at board op o last) lanes ≡ total (stage_at board op o new) lanes = ap (λ w. total (stage_at board op o w) lanes) (sym is_new) in
      let old_sum = delayed_sum board valid h run.1 o op at.master is_op at.is_master in
      let new_sum = delayed_sum board valid (Act on by o Latch (Lane lane) ∷ h) run o op at.master is_op at.is_master in
      let left : delayed_left new o lanes + 1 ≤ delayed_left world o lanes + 0 = omega (arith, old_sum, new_sum, further, sum_new) in
      let turns : (i : ℕ) → turn_of board (Act on by o Latch (Lane lane) ∷ h) i ≡ turn_of board h i = λ i. latch_turn board h on by o (Lane lane) i in
      let was : turn_of board h o.master ≡ Some o = sym (turns o.master) ∙ at.is_turn in
      let own = own_stays board valid h event run parts o op at.master is_op at.is_master delayed (λ i _. turns i) others_new 1 0 was at.is_turn left in
      let grown = grown_still board h world new still_new in
      lowers board valid h event run parts o op at.master is_op at.is_master delayed (λ i _. turns i) others_new (λ _. refl) still_new 1 0 0 0 own
      (omega (arith, discards_le board world new grown)) (omega (arith, drops_le board world new grown)) (omega arith)
