-- Of an operation with data phases, fewer than all go through in parts.
use Rattle.std.proofs.Common.{◌≡◌, ℕ, ◌+◌, ◌<◌, ◌≤◌, Bool, true, false, cond, List, [], ◌∷◌, length, drop, Some, refl, ap, subst, ◌∙◌, arith}
use Rattle.std.proofs.lemmas.List.{length-drop}
use Rattle.pci_command.specs.declared.op_id.OpId.{OpId}
use Rattle.pci_command.specs.Same.{same_op}
use Rattle.board_model.specs.declared.bridge.Place.{Place}
use Rattle.board_model.specs.declared.board.Board.{Board}
use Rattle.board_model.specs.declared.op.Op.{Op}
use Rattle.board_model.specs.Requests.{op_of, phases_of}
use Rattle.board_model.specs.WellFormed.{is_well_formed}
use Rattle.history_model.specs.declared.event.By.{By}
use Rattle.history_model.specs.declared.event.Step.{Step}
use Rattle.history_model.specs.declared.event.Step.TheVariants.{Land, Part, Read, Accept, Latch, Take, Stall, MasterAbort, TargetAbort}
use Rattle.history_model.specs.declared.event.Event.{Event}
use Rattle.history_model.specs.declared.event.Event.TheVariants.{Act, Arrive}
use Rattle.history_model.specs.declared.item.Answer.TheVariants.{Gives}
use Rattle.history_model.specs.Words.{phases_parted, parted_by, through}
use Rattle.history_model.specs.Answers.{answer}
use Rattle.history_model.specs.Runs.{Allowed, Run}
use Rattle.board_model.proofs.Laws.{op_phases, op_formed}
use Rattle.law_lanes.proofs.Laws.{PartLeft, answered_part}
use Rattle.history_model.proofs.facts.RequestLemmas.{same_op_true, request_is_of}

module _ (board : Board) (o : OpId) (op : Op) (is_op : op_of board o ≡ Some op) where
  -- what goes through in a part is less than what is left
  part_leaves : (h : List Event) (on : ℕ) (by : By) (phases : ℕ) (place : Place) → answer board h on by o ≡ Gives (Part phases) place → phases + through h o < length (phases_of op)
  part_leaves h on by phases place gives =
      let left : PartLeft board h on o phases = answered_part board h on by o phases place gives in
      let of_op = request_is_of board o on left.request left.is_request in
      let same : of_op.op ≡ op = let known = of_op.is_op in cc in
      let phases_same : left.request.phases ≡ phases_of op = ap (λ r. r.phases) of_op.is_request ∙ ap phases_of same in
      let fewer : phases < length (drop (through h o) (phases_of op)) = subst (λ xs. phases < length (drop (through h o) xs)) phases_same left.fewer in
      omega (arith, fewer, length-drop (through h o) (phases_of op))

  step_leaves : (h : List Event) (on : ℕ) (by : By) (step : Step) (place : Place) → answer board h on by o ≡ Gives step place → through h o < length (phases_of op)
      → phases_parted step + through h o < length (phases_of op)
  step_leaves h on by Land place gives before = omega (arith, before)
  step_leaves h on by (Part phases) place gives before = part_leaves h on by phases place gives
  step_leaves h on by (Read value) place gives before = omega (arith, before)
  step_leaves h on by Accept place gives before = omega (arith, before)
  step_leaves h on by Latch place gives before = omega (arith, before)
  step_leaves h on by (Take outcome) place gives before = omega (arith, before)
  step_leaves h on by Stall place gives before = omega (arith, before)
  step_leaves h on by MasterAbort place gives before = omega (arith, before)
  step_leaves h on by TargetAbort place gives before = omega (arith, before)

  event_leaves : (h : List Event) (e : Event) → Allowed board h e → through h o < length (phases_of op) → parted_by o e + through h o < length (phases_of op)
  event_leaves h (Act on by p step place) allowed before =
      let P : Bool → Type 0 = λ b. same_op p o ≡ b → cond b (phases_parted step) 0 + through h o < length (phases_of op) in
      (elim (same_op p o) as P [
        | true ↦ λ same.
            let one : p ≡ o = same_op_true p o same in
            step_leaves h on by step place (subst (λ q. answer board h on by q ≡ Gives step place) one allowed.1) before
        | false ↦ λ _. omega (arith, before)
      ]) refl
  event_leaves h (Arrive lane mark) allowed before = omega (arith, before)

  pub Rest-run : (h : List Event) → Run board h → 1 ≤ length (phases_of op) → through h o < length (phases_of op)
  Rest-run [] run some = omega (arith, some)
  Rest-run (e ∷ h) run some = event_leaves h e run.0 (Rest-run h run.1 some)

-- on a well-formed board each operation has a data phase
pub Some-formed : (board : Board) (o : OpId) (op : Op) → is_well_formed board ≡ true → op_of board o ≡ Some op → 1 ≤ length (phases_of op)
Some-formed board o op formed is_op = (op_phases op (op_formed board o op formed is_op)).from
