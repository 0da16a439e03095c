-- On a valid board an operation has one slot of a lane, held for the same initiator in every run: where bridges keep the
-- local master, it is the one before the lane on the way of the operation.
use Rattle.std.proofs.Common.{◌≡◌, List, Some, refl, sym, ap, subst, ◌∙◌, slice_get}
use Rattle.list_facts.specs.Lists.{before}
use Rattle.list_facts.proofs.EachLemmas.{Each-find}
use Rattle.pci_command.specs.declared.op_id.OpId.{OpId}
use Rattle.board_model.specs.declared.agents.Master.{Master as MasterAgent}
use Rattle.board_model.specs.declared.bridge.Lane.{Lane as BridgeLane}
use Rattle.board_model.specs.declared.op.Op.{Op}
use Rattle.board_model.specs.declared.board.Board.{Board}
use Rattle.board_model.specs.Requests.{op_of}
use Rattle.board_model.specs.Ways.{way}
use Rattle.board_model.specs.Valid.{IsValid}
use Rattle.history_model.specs.declared.event.By.{By}
use Rattle.history_model.specs.declared.event.Event.{Event}
use Rattle.history_model.specs.declared.item.Slot.{Slot}
use Rattle.history_model.specs.declared.rule.Rule.{Rule}
use Rattle.history_model.specs.declared.rule.Rule.TheVariants.{Tagged, Untagged}
use Rattle.history_model.specs.World.{same_lane, anyone, world_by}
use Rattle.history_model.specs.Runs.{RunBy, Run}
use Rattle.history_model.specs.Left.{is_slot_of}
use Rattle.history_model.proofs.facts.RequestLemmas.{same_op_self}
use Rattle.law_lanes.proofs.Laws.{WellFormed-numbers}
use Rattle.law_bound.specs.reach.Reach.{last_of, presenter}
use Rattle.law_bound.proofs.reach.Laws.{Own, own_by, own_of, one_op}
use Rattle.law_early.proofs.OneOwnLemmas.{one_each, untagged_once}
use Rattle.law_early.proofs.OneSlotLemmas.{FindsOwn, Mine, only_found}
use Rattle.law_early.proofs.CargoAheadLemmas.{Ones}

module _ (board : Board) (valid : IsValid board) where
  same_by : (h k : List Event) (run : Run board h) (other : Run board k) (lane : BridgeLane) (o : OpId) (s t : Slot) → Own board valid h run lane o s → Own board valid k other lane o t → t.by ≡ s.by
  same_by h k run other lane o s t a b =
      let op_a : op_of board o ≡ Some a.reach.op = subst (λ p. op_of board p ≡ Some a.reach.op) a.is_for a.reach.is_op in
      let op_b : op_of board o ≡ Some b.reach.op = subst (λ p. op_of board p ≡ Some b.reach.op) b.is_for b.reach.is_op in
      let ops : b.reach.op ≡ a.reach.op = one_op (op_of board o) b.reach.op a.reach.op op_b op_a in
      let master_a : slice_get board.masters o.master ≡ Some a.reach.master = subst (λ p. slice_get board.masters p.master ≡ Some a.reach.master) a.is_for a.reach.is_master in
      let master_b : slice_get board.masters o.master ≡ Some b.reach.master = subst (λ p. slice_get board.masters p.master ≡ Some b.reach.master) b.is_for b.reach.is_master in
      let masters : b.reach.master ≡ a.reach.master = cc in
      let F : Op → MasterAgent → By = λ op master. presenter (last_of (before (same_lane lane) (way board op master.bus))) in
      b.reach.latched_by ∙ (ap (λ op. F op b.reach.master) ops ∙ (ap (F a.reach.op) masters ∙ sym a.reach.latched_by))

  finds_own : (rule : Rule) (h : List Event) (lane : BridgeLane) → RunBy rule board h → FindsOwn (world_by rule board h lane).held
  finds_own Tagged h lane run test slot is = (own_by board valid h run lane slot.op test slot is refl).found
  finds_own Untagged h lane run test slot is =
      let held : List Slot = (world_by Untagged board h lane).held in
      let each = one_each Untagged board (WellFormed-numbers board valid.well_formed) h lane run in
      only_found (is_slot_of slot.op) test held slot (untagged_once board lane held slot.op each) is (same_op_self slot.op)

  names_same : (rule : Rule) (h k : List Event) (lane : BridgeLane) (o : OpId) (s t : Slot) → RunBy rule board h → RunBy rule board k
      → Mine (world_by rule board h lane).held o s → Mine (world_by rule board k lane).held o t → t.by ≡ s.by
  names_same Tagged h k lane o s t run other a b = same_by h k run other lane o s t (own_of board valid h run lane o s a.found) (own_of board valid k other lane o t b.found)
  names_same Untagged h k lane o s t run other a b =
      let distinct = WellFormed-numbers board valid.well_formed in
      let A : Slot → Type 0 = λ (slot : Slot). slot.by ≡ anyone in
      let of_s : s.by ≡ anyone = Each-find A (is_slot_of o) (world_by Untagged board h lane).held s ((one_each Untagged board distinct h lane run).names refl) a.found in
      let of_t : t.by ≡ anyone = Each-find A (is_slot_of o) (world_by Untagged board k lane).held t ((one_each Untagged board distinct k lane other).names refl) b.found in
      of_t ∙ sym of_s

  pub ones_of : (rule : Rule) (h k : List Event) → RunBy rule board h → RunBy rule board k → Ones (world_by rule board h) (world_by rule board k)
  ones_of rule h k run other =
      record {
        first = λ lane. finds_own rule h lane run;
        second = λ lane. finds_own rule k lane other;
        names = λ lane o s t a b. names_same rule h k lane o s t run other a b;
      }
