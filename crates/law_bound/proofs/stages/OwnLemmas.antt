-- The slots of one operation: where they are on its way, and what is left of them where one is freed.
use Rattle.std.proofs.Common.{◌≡◌, ℕ, Bool, true, false, eqb, List, Some, refl, sym, ap, subst, ◌∙◌}
use Rattle.std.specs.List.{find}
use Rattle.std.proofs.lemmas.Bool.{eqb-true}
use Rattle.list_facts.proofs.FindLemmas.{find_passes}
use Rattle.pci_command.specs.declared.op_id.OpId.{OpId}
use Rattle.pci_command.specs.Same.{same_op}
use Rattle.board_model.specs.declared.bridge.Lane.{Lane as BridgeLane}
use Rattle.board_model.specs.declared.board.Board.{Board}
use Rattle.board_model.specs.Valid.{IsValid}
use Rattle.history_model.specs.declared.event.Event.{Event}
use Rattle.history_model.specs.declared.item.Slot.{Slot}
use Rattle.history_model.specs.Lanes.{has_number}
use Rattle.history_model.specs.World.{world_of}
use Rattle.history_model.specs.Runs.{Run}
use Rattle.history_model.specs.Left.{is_slot_of}
use Rattle.law_lanes.specs.Slots.{IsHeldFor}
use Rattle.history_model.proofs.facts.RequestLemmas.{same_op_true, same_op_self}
use Rattle.law_bound.proofs.reach.Laws.{by_number}
use Rattle.law_bound.proofs.stages.SameLemmas.{Others}

module _ (board : Board) (valid : IsValid board) (h : List Event) (run : Run board h) where
  -- the slots of other operations have other numbers
  pub others_of : (lane : BridgeLane) (number : ℕ) (o p : OpId) → IsHeldFor (world_of board h lane).held number o → same_op o p ≡ false → Others p (world_of board h lane).held number
  others_of lane number o p held_for other slot is =
      let held : List Slot = (world_of board h lane).held in
      let P : Bool → Type 0 = λ b. eqb number slot.number ≡ b → b ≡ false in
      (elim (eqb number slot.number) as P [
        | true ↦ λ same.
            let numbers : number ≡ slot.number = eqb-true number slot.number same in
            let found_it : find (has_number number) held ≡ Some slot = subst (λ n. find (has_number n) held ≡ Some slot) (sym numbers) (by_number board valid h run lane (is_slot_of p) slot is) in
            let known = held_for.is_held in
            let one : held_for.slot ≡ slot = cc in
            let of_p : slot.op ≡ p = same_op_true slot.op p (find_passes (is_slot_of p) held slot is) in
            let ops : o ≡ p = sym held_for.is_for ∙ ap (λ (s : Slot). s.op) one ∙ of_p in
            let self : same_op o o ≡ true = same_op_self o in
            let apart : same_op o o ≡ false = subst (λ q. same_op o q ≡ false) (sym ops) other in
            cc
        | false ↦ λ _. refl
      ]) refl
