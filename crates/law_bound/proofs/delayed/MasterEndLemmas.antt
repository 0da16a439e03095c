-- A delayed request ends at its master.
use Rattle.std.proofs.Common.{◌≡◌, ℕ, ◌+◌, ◌≤◌, Bool, true, false, eqb, List, ◌∷◌, Option, Some, None, refl, sym, ap, subst, ◌∙◌, arith, slice_get}
use Rattle.std.specs.List.{list_any}
use Rattle.std.proofs.lemmas.Bool.{eqb-true}
use Rattle.std.proofs.lemmas.Bool.Decides.{nat_tests}
use Rattle.pci_command.specs.declared.op_id.OpId.{OpId}
use Rattle.pci_command.specs.declared.op_id.Outcome.{Outcome}
use Rattle.pci_command.specs.declared.command.Command.TheVariants.{MemWrite}
use Rattle.pci_command.specs.Same.{same_op, same_command}
use Rattle.board_model.specs.declared.agents.Master.{Master as MasterAgent}
use Rattle.board_model.specs.declared.bridge.Lane.{Lane as BridgeLane}
use Rattle.board_model.specs.declared.bridge.Place.{Place}
use Rattle.board_model.specs.declared.op.Op.{Op}
use Rattle.board_model.specs.declared.board.Board.{Board}
use Rattle.board_model.specs.Requests.{op_of, command_of}
use Rattle.board_model.specs.Valid.{IsValid}
use Rattle.history_model.specs.declared.event.By.TheVariants.{Master}
use Rattle.history_model.specs.declared.event.Step.{Step}
use Rattle.history_model.specs.declared.event.Event.{Event}
use Rattle.history_model.specs.declared.event.Event.TheVariants.{Act}
use Rattle.history_model.specs.World.{World, both, at_place, world_of}
use Rattle.history_model.specs.Program.{master_outcome, ending_of, follows, turn_after, turn_of}
use Rattle.history_model.specs.Words.{parted_by}
use Rattle.history_model.specs.Answers.{stalls_by, is_on}
use Rattle.history_model.specs.Runs.{Run}
use Rattle.history_model.specs.Left.{is_slot_of, left_of}
use Rattle.law_lanes.proofs.Laws.{wants-at}
use Rattle.history_model.proofs.facts.WantsLemmas.{wants-turn}
use Rattle.law_bound.proofs.stages.Laws.{Same}
use Rattle.history_model.proofs.facts.StoreLemmas.{discards_le, drops_le}
use Rattle.law_bound.proofs.changes.Laws.{Still, grown_still, own_ends, lowers}
use Rattle.law_bound.proofs.reach.Laws.{no_slots}

-- a master that is on a bus is there
master_there : (on : ℕ) (found : Option MasterAgent) → is_on on found ≡ true → (master : MasterAgent) × (found ≡ Some master)
master_there on None is = cc
master_there on (Some master) is = (master, refl)

module _ (board : Board) (valid : IsValid board) (h : List Event) (on : ℕ) (o : OpId) (op : Op) (step : Step) (place : Place) (outcome : Outcome)
    (run : Run board (Act on Master o step place ∷ h)) (is_op : op_of board o ≡ Some op) (delayed : same_command (command_of op) MemWrite ≡ false)
    (parts : (p : OpId) → parted_by p (Act on Master o step place) ≡ 0) (stalls : (target : ℕ) → stalls_by target (Act on Master o step place) ≡ 0)
    (ends : master_outcome step ≡ Some outcome) where
  -- the turn of its master, and of the others
  turn_new : turn_of board (Act on Master o step place ∷ h) o.master ≡ follows board (record { op = o; outcome = outcome })
  turn_new =
      let self : eqb o.master o.master ≡ true = grind (arith, nat_tests) in
      ap (λ found. turn_after board o.master (turn_of board h o.master) (ending_of o found)) ends ∙ rw self refl

  -- no other turn changes
  turn_others : (i : ℕ) → (i ≡ o.master → ⊥) → turn_of board (Act on Master o step place ∷ h) i ≡ turn_of board h i
  turn_others i other =
      let P : Bool → Type 0 = λ b. eqb o.master i ≡ b → b ≡ false in
      let apart : eqb o.master i ≡ false = (elim (eqb o.master i) as P [ true ↦ λ is. absurd (other (sym (eqb-true o.master i is))) | false ↦ λ _. refl ]) refl in
      ap (λ found. turn_after board i (turn_of board h i) (ending_of o found)) ends ∙ rw apart refl

  -- where no slot comes to be held, the end of an operation at its master lowers what is left
  pub master_end_lowers : (mid : World) → at_place board on Master o step place (world_of board h) ≡ mid
      → ((p : OpId) → same_op o p ≡ false → (l : BridgeLane) → Same p (both (world_of board h) l) (both mid l))
      → ((l : BridgeLane) → Still board h l (world_of board h l) (mid l))
      → ((q : OpId) → ((l : BridgeLane) → list_any (is_slot_of q) (world_of board h l).held ≡ false) → (l : BridgeLane) → list_any (is_slot_of q) (mid l).held ≡ false)
      → left_of board (Act on Master o step place ∷ h) + 1 ≤ left_of board h
  master_end_lowers mid is_mid others still none =
      let event : Event = Act on Master o step place in
      let world : World = world_of board h in
      let new : World = world_of board (Act on Master o step place ∷ h) in
      let is_new : new ≡ mid = is_mid in
      let at = master_there on (slice_get board.masters o.master) (wants-at board h on Master o run.0.0) in
      let was : turn_of board h o.master ≡ Some o = wants-turn board h on o run.0.0 in
      let others_new : (p : OpId) → same_op o p ≡ false → (l : BridgeLane) → Same p (both world l) (both new l) = λ p other l. subst (λ w. Same p (both world l) (both w l)) (sym is_new) (others p other l) in
      let still_new : (l : BridgeLane) → Still board h l (world l) (new l) = λ l. subst (λ (w : World). Still board h l (world l) (w l)) (sym is_new) (still l) in
      let none_new : (q : OpId) → q.master ≡ o.master → same_op o q ≡ false → (l : BridgeLane) → list_any (is_slot_of q) (new l).held ≡ false =
      λ q masters other l. subst (λ (w : World). list_any (is_slot_of q) (w l).held ≡ false) (sym is_new) (none q (no_slots board valid h run.1 o q was masters other) l) in
      let own = own_ends board valid h event run parts o op at.0 is_op at.1 delayed turn_others others_new outcome was turn_new none_new in
      let grown = grown_still board h world new still_new in
      lowers board valid h event run parts o op at.0 is_op at.1 delayed turn_others others_new stalls still_new 1 0 0 0 own
      (omega (arith, discards_le board world new grown)) (omega (arith, drops_le board world new grown)) (omega arith)
