-- Who waits for slots after an operation ended at its initiator, for which no slot is held.
use Rattle.std.proofs.Common.{◌≡◌, ℕ, Bool, true, false, ◌&&◌, ◌==◌, eqb, Option, Some, None, refl, ap, subst, arith}
use Rattle.std.specs.List.{find}
use Rattle.std.proofs.lemmas.Bool.Decides.{nat_tests}
use Rattle.list_facts.proofs.EachLemmas.{Each-weaker, Each-both}
use Rattle.pci_command.specs.declared.op_id.OpId.{OpId}
use Rattle.pci_command.specs.declared.op_id.Outcome.{Outcome}
use Rattle.pci_command.specs.Same.{same_op}
use Rattle.board_model.specs.declared.bridge.Lane.{Lane as BridgeLane}
use Rattle.board_model.specs.declared.board.Board.{Board}
use Rattle.board_model.specs.Ways.{start_of, lane_back}
use Rattle.history_model.specs.declared.event.By.{By}
use Rattle.history_model.specs.declared.event.By.TheVariants.{Master, Lane as ByLane}
use Rattle.history_model.specs.declared.item.Carried.{Carried}
use Rattle.history_model.specs.declared.item.Carried.TheVariants.{Ask}
use Rattle.history_model.specs.declared.item.Slot.{Slot}
use Rattle.history_model.specs.Lanes.{LaneState, Both, is_of, item_ends}
use Rattle.history_model.specs.World.{World, same_lane, same_initiator, moved}
use Rattle.history_model.specs.Program.{turn_after, Ending}
use Rattle.law_lanes.specs.Owners.{is_equal_ask, Waits, Owners}
use Rattle.history_model.proofs.facts.BridgeLemmas.{same_lane_self, moved_keeps}
use Rattle.history_model.proofs.facts.RequestLemmas.{same_op_self}
use Rattle.law_lanes.proofs.OwnersMoveLemmas.{LaneOwners, owners_of}
use Rattle.law_lanes.proofs.OwnersFreeLemmas.{is_for, NoneFor}
use Rattle.list_facts.proofs.FoundLemmas.{find-less_kept}

-- delayed requests but those of one operation stay first on the lane where its item ends, and all on any other
abbrev KeepsBut : BridgeLane → OpId → BridgeLane → LaneState → LaneState → Type 0
KeepsBut lane o l old new = (test : Carried → Bool) (p : OpId) (number : ℕ) → (same_lane l lane ≡ true → same_op o p ≡ false) → find test old.standing ≡ Some (Ask p number) → find test new.standing ≡ Some (Ask p number)

ends_keeps_but : (lane : BridgeLane) (o : OpId) (outcome : Outcome) (world : World) → (l : BridgeLane) → KeepsBut lane o l (world l) (moved (item_ends o outcome) lane world l)
ends_keeps_but lane o outcome world =
    let P : BridgeLane → Both → Type 0 = λ l x. KeepsBut lane o l (world l) x.here in
    moved_keeps P (item_ends o outcome) lane world (λ l test p number _ some. some)
    (λ test p number other some. find-less_kept test (is_of o) (world lane).standing (Ask p number) some (other (same_lane_self lane)))
    (λ test p number other some. some)

-- an initiator that waits for another operation, or is another one, still waits
waits_ended : (board : Board) (turn : ℕ → Option OpId) (lane : BridgeLane) (o : OpId) (old new : World) (on : ℕ) (slot : Slot)
    → ((l : BridgeLane) → KeepsBut lane o l (old l) (new l)) → is_for (ByLane lane) o slot ≡ false → Waits board turn old on slot.by slot.op → Waits board turn new on slot.by slot.op
waits_ended board turn lane o old new on slot keeps other waits =
    let P : By → Type 0 = λ by. (same_initiator by slot.op (ByLane lane) o && same_op slot.op o) ≡ false → Waits board turn old on by slot.op → Waits board turn new on by slot.op in
    (elim (slot.by) as P [
      | Master ↦ λ _ waits. waits
      | ByLane k ↦ λ other waits.
          let apart : same_lane k lane ≡ true → same_op o slot.op ≡ false =
          λ same. let back : (same_lane k lane && same_op slot.op o) ≡ false = other in grind (arith, nat_tests) in
          record { number = waits.number; first = keeps k (is_equal_ask board on slot.op) slot.op waits.number apart waits.first }
    ]) other waits

pub Owners-ended : (board : Board) (turn : ℕ → Option OpId) (lane : BridgeLane) (o : OpId) (outcome : Outcome) (world : World)
    → ((l : BridgeLane) → NoneFor (ByLane lane) o (world l).held) → Owners board turn world → Owners board turn (moved (item_ends o outcome) lane world)
Owners-ended board turn lane o outcome world none old =
    let new : World = moved (item_ends o outcome) lane world in
    let P : BridgeLane → Both → Type 0 = λ l x. LaneOwners board turn new l x.here.held in
    let each : (l : BridgeLane) → LaneOwners board turn new l (world l).held =
    λ l.
    let A : Slot → Type 0 = λ slot. is_for (ByLane lane) o slot ≡ false in
    let B : Slot → Type 0 = λ slot. Waits board turn world (start_of board l) slot.by slot.op in
    let C : Slot → Type 0 = λ slot. Waits board turn new (start_of board l) slot.by slot.op in
    let step : (slot : Slot) → A slot × B slot → C slot = λ slot both. waits_ended board turn lane o world new (start_of board l) slot (ends_keeps_but lane o outcome world) both.0 both.1 in
    record { waits = Each-weaker (λ (slot : Slot). A slot × B slot) C step (world l).held (Each-both A B (world l).held (none l) (old.waits l)); one_own = old.one_own l } in
    owners_of board turn new (moved_keeps P (item_ends o outcome) lane world each (each lane) (each (lane_back lane)))

-- after the operation of a master ended, its turn goes on
waits_turned : (board : Board) (turn : ℕ → Option OpId) (world : World) (o : OpId) (ending : Option Ending) (on : ℕ) (slot : Slot)
    → turn o.master ≡ Some o → ((e : Ending) → ending ≡ Some e → e.op ≡ o) → is_for Master o slot ≡ false
    → Waits board turn world on slot.by slot.op → Waits board (λ master. turn_after board master (turn master) ending) world on slot.by slot.op
waits_turned board turn world o ending on slot is_turn_of of_o other waits =
    let next : ℕ → Option OpId = λ master. turn_after board master (turn master) ending in
    let P : By → Type 0 = λ by. (same_initiator by slot.op Master o && same_op slot.op o) ≡ false → Waits board turn world on by slot.op → Waits board next world on by slot.op in
    (elim (slot.by) as P [
      | ByLane k ↦ λ _ waits. waits
      | Master ↦ λ other waits.
          let apart : o.master ≡ slot.op.master → ⊥ =
          λ same.
          let turns : turn o.master ≡ turn slot.op.master = ap turn same in
          let one : slot.op ≡ o = cc in
          let F : OpId → Type 0 = λ p. (eqb p.master o.master && same_op p o) ≡ false in
          let both : (eqb o.master o.master && same_op o o) ≡ false = subst F one other in
          let self = same_op_self o in
          grind (arith, nat_tests) in
          let Q : Option Ending → Type 0 = λ e. ((f : Ending) → e ≡ Some f → f.op ≡ o) → turn_after board slot.op.master (turn slot.op.master) e ≡ Some slot.op in
          (elim ending as Q [
            | None ↦ λ _. waits
            | Some e ↦ λ is.
                let op : e.op ≡ o = is e refl in
                let masters : e.op.master ≡ o.master = ap (λ (p : OpId). p.master) op in
                let test : (e.op.master == slot.op.master) ≡ false = grind (arith, nat_tests) in
                rw test waits
          ]) of_o
    ]) other waits

pub Owners-turned : (board : Board) (turn : ℕ → Option OpId) (world : World) (o : OpId) (ending : Option Ending)
    → turn o.master ≡ Some o → ((e : Ending) → ending ≡ Some e → e.op ≡ o) → ((l : BridgeLane) → NoneFor Master o (world l).held)
    → Owners board turn world → Owners board (λ master. turn_after board master (turn master) ending) world
Owners-turned board turn world o ending is_turn_of of_o none old =
    let next : ℕ → Option OpId = λ master. turn_after board master (turn master) ending in
    let each : (l : BridgeLane) → LaneOwners board next world l (world l).held =
    λ l.
    let A : Slot → Type 0 = λ slot. is_for Master o slot ≡ false in
    let B : Slot → Type 0 = λ slot. Waits board turn world (start_of board l) slot.by slot.op in
    let C : Slot → Type 0 = λ slot. Waits board next world (start_of board l) slot.by slot.op in
    let step : (slot : Slot) → A slot × B slot → C slot = λ slot both. waits_turned board turn world o ending (start_of board l) slot is_turn_of of_o both.0 both.1 in
    record { waits = Each-weaker (λ (slot : Slot). A slot × B slot) C step (world l).held (Each-both A B (world l).held (none l) (old.waits l)); one_own = old.one_own l } in
    owners_of board next world each
