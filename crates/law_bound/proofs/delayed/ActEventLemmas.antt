-- Each act of a delayed request lowers what is left.
use Rattle.std.proofs.Common.{◌≡◌, ℕ, ◌+◌, ◌*◌, ◌≤◌, true, false, List, ◌∷◌, length, Some, refl, sym, ap, subst, ◌∙◌, arith}
use Rattle.pci_command.specs.declared.request.Request.{Request}
use Rattle.pci_command.specs.declared.op_id.OpId.{OpId}
use Rattle.pci_command.specs.declared.op_id.Outcome.{Outcome}
use Rattle.pci_command.specs.declared.op_id.Outcome.TheVariants.{Value, Written, Aborted, Nobody as NoOutcome}
use Rattle.pci_command.specs.declared.command.Command.TheVariants.{MemWrite}
use Rattle.pci_command.specs.Same.{same_command}
use Rattle.board_model.specs.declared.bridge.Lane.{Lane as BridgeLane}
use Rattle.board_model.specs.declared.bridge.Place.{Place}
use Rattle.board_model.specs.declared.bridge.Place.TheVariants.{Target, Header, Lane, Nobody}
use Rattle.board_model.specs.declared.op.Op.{Op}
use Rattle.board_model.specs.declared.board.Board.{Board}
use Rattle.board_model.specs.Requests.{op_of, command_of, request_on, reads}
use Rattle.board_model.specs.Claims.{claim}
use Rattle.board_model.specs.Ways.{end_of, way, is_lane}
use Rattle.board_model.specs.Valid.{IsValid}
use Rattle.board_model.proofs.form_laws.Laws.{WayEnds-tree, IsTree-valid}
use Rattle.history_model.specs.declared.event.By.{By}
use Rattle.history_model.specs.declared.event.By.TheVariants.{Master, Lane as ByLane}
use Rattle.history_model.specs.declared.event.Step.{Step}
use Rattle.history_model.specs.declared.event.Step.TheVariants.{Land, Part, Read, Accept, Latch, Take, Stall, MasterAbort, TargetAbort}
use Rattle.history_model.specs.declared.event.Event.{Event}
use Rattle.history_model.specs.declared.event.Event.TheVariants.{Act}
use Rattle.history_model.specs.World.{World, at_place, mode_of, unclaimed, lane_outcome, world_of}
use Rattle.history_model.specs.Program.{master_outcome}
use Rattle.history_model.specs.Answers.{stalls_in}
use Rattle.history_model.specs.Runs.{Run}
use Rattle.history_model.specs.Left.{left_of}
use Rattle.history_model.proofs.facts.AnswerLemmas.{answered_at}
use Rattle.law_lanes.proofs.Laws.{wants-at}
use Rattle.history_model.proofs.facts.RequestLemmas.{request_is_of}
use Rattle.history_model.proofs.facts.PathLemmas.{way_goes}
use Rattle.history_model.specs.Steps.{is_stall}
use Rattle.law_bound.proofs.stages.Laws.{passed_stage}
use Rattle.law_bound.proofs.changes.Laws.{still_self, ends_there}
use Rattle.law_bound.specs.changes.Steps.{IsEnd}
use Rattle.law_bound.proofs.reach.Laws.{nothing_parted, lane_there, one_op, asked_at, passed_at}
use Rattle.law_bound.proofs.delayed.LaneEndLemmas.{lane_end_lowers}
use Rattle.law_bound.proofs.delayed.TakenLemmas.{mid, is_mid, others_mid, still_mid, none_mid, sum_mid, held_same, stands_same, stage_k}
use Rattle.law_bound.proofs.delayed.LatchLemmas.{latch_lowers}
use Rattle.law_bound.proofs.delayed.MasterEndLemmas.{master_end_lowers}

-- how an operation ends, at its master and at a lane
master_ended : (step : Step) → IsEnd step → (outcome : Outcome) × (master_outcome step ≡ Some outcome)
master_ended Land is = (Written, refl)
master_ended (Part phases) is = absurd is
master_ended (Read value) is = (Value value, refl)
master_ended Accept is = absurd is
master_ended Latch is = absurd is
master_ended (Take outcome) is = absurd is
master_ended Stall is = absurd is
master_ended MasterAbort is = (NoOutcome, refl)
master_ended TargetAbort is = (Aborted, refl)

-- and at a lane that presented it
lane_ended : (board : Board) (lane : BridgeLane) (o : OpId) (step : Step) → IsEnd step → (outcome : Outcome) × (lane_outcome board lane o step ≡ Some outcome)
lane_ended board lane o Land is = (Written, refl)
lane_ended board lane o (Part phases) is = absurd is
lane_ended board lane o (Read value) is = (Value value, refl)
lane_ended board lane o Accept is = absurd is
lane_ended board lane o Latch is = absurd is
lane_ended board lane o (Take outcome) is = absurd is
lane_ended board lane o Stall is = absurd is
lane_ended board lane o MasterAbort is = (unclaimed (mode_of board lane.bus) (reads board o), refl)
lane_ended board lane o TargetAbort is = (Aborted, refl)

-- a step that is no stall uses no token
no_stall : (step : Step) (place : Place) → is_stall step ≡ false → (target : ℕ) → stalls_in target place step ≡ 0
no_stall Land place is target = refl
no_stall (Part phases) place is target = refl
no_stall (Read value) place is target = refl
no_stall Accept place is target = refl
no_stall Latch place is target = refl
no_stall (Take outcome) place is target = refl
no_stall Stall place is target = cc
no_stall MasterAbort place is target = refl
no_stall TargetAbort place is target = refl

-- nothing happens where no lane claims
unmoved : (board : Board) (on : ℕ) (by : By) (o : OpId) (step : Step) (place : Place) (world : World) → is_lane place ≡ false → at_place board on by o step place world ≡ world
unmoved board on by o step (Target target) world none = refl
unmoved board on by o step (Header bus) world none = refl
unmoved board on by o step (Lane lane) world none = cc
unmoved board on by o step Nobody world none = refl

module _ (board : Board) (valid : IsValid board) (h : List Event) (on : ℕ) (o : OpId) (op : Op) (is_op : op_of board o ≡ Some op) (delayed : same_command (command_of op) MemWrite ≡ false) where
  -- where no lane claims the operation
  ends_lowers : (by : By) (step : Step) (place : Place) → is_stall step ≡ false → Run board (Act on by o step place ∷ h) → is_lane (claim board on (request_on op on)) ≡ false
      → left_of board (Act on by o step place ∷ h) + 1 ≤ left_of board h
  ends_lowers Master step place moves run none =
      let at = ends_there board valid h on Master o op step place run is_op delayed moves none in
      let out = master_ended step at.0 in
      master_end_lowers board valid h on o op step place out.0 run is_op delayed (nothing_parted board valid h on Master o op step place run is_op delayed) (no_stall step place moves) out.1
      (world_of board h) (unmoved board on Master o step place (world_of board h) at.1) (λ p _ l rest. refl) (λ l. still_self board h l (world_of board h l)) (λ q free. free)
  ends_lowers (ByLane k) step place moves run none =
      let at = ends_there board valid h on (ByLane k) o op step place run is_op delayed moves none in
      let out = lane_ended board k o step at.0 in
      let asked = asked_at board h on k o op run.1 is_op delayed run.0.0 in
      let three = passed_stage board valid h run.1 o op k (passed_at board h k o asked.0 run.1 asked.1) in
      lane_end_lowers board valid h on k o op step place out.0 run is_op delayed (nothing_parted board valid h on (ByLane k) o op step place run is_op delayed) (no_stall step place moves) out.1
      asked.0 asked.1 (world_of board h) (unmoved board on (ByLane k) o step place (world_of board h) at.1) refl refl (λ p _ l rest. refl) (λ l. still_self board h l (world_of board h l))
      0 three (omega arith) (λ master. omega arith)

  -- a lane claims it, and gives its completion
  take_lowers : (by : By) (outcome : Outcome) (lane : BridgeLane) → Run board (Act on by o (Take outcome) (Lane lane) ∷ h) → claim board on (request_on op on) ≡ Lane lane
      → left_of board (Act on by o (Take outcome) (Lane lane) ∷ h) + 1 ≤ left_of board h
  take_lowers Master outcome lane run claims =
      master_end_lowers board valid h on o op (Take outcome) (Lane lane) outcome run is_op delayed (nothing_parted board valid h on Master o op (Take outcome) (Lane lane) run is_op delayed) (λ _. refl) refl
      (mid board valid h on Master o op outcome lane run is_op) (is_mid board valid h on Master o op outcome lane run is_op) (others_mid board valid h on Master o op outcome lane run is_op)
      (still_mid board valid h on Master o op outcome lane run is_op) (none_mid board valid h on Master o op outcome lane run is_op)
  take_lowers (ByLane k) outcome lane run claims =
      let tree = IsTree-valid board valid in
      let asked = asked_at board h on k o op run.1 is_op delayed run.0.0 in
      let three = passed_stage board valid h run.1 o op k (passed_at board h k o asked.0 run.1 asked.1) in
      let ends : end_of board k ≡ on = wants-at board h on (ByLane k) o run.0.0 in
      let claims_there : claim board (end_of board k) (request_on op (end_of board k)) ≡ Lane lane = subst (λ n. claim board n (request_on op n) ≡ Lane lane) (sym ends) claims in
      let longer = ap length (way_goes board op (end_of board k) lane tree claims_there) in
      lane_end_lowers board valid h on k o op (Take outcome) (Lane lane) outcome run is_op delayed (nothing_parted board valid h on (ByLane k) o op (Take outcome) (Lane lane) run is_op delayed) (λ _. refl) refl
      asked.0 asked.1 (mid board valid h on (ByLane k) o op outcome lane run is_op) (is_mid board valid h on (ByLane k) o op outcome lane run is_op)
      (held_same board valid h on (ByLane k) o op outcome lane run is_op k three) (stands_same board valid h on (ByLane k) o op outcome lane run is_op k three)
      (others_mid board valid h on (ByLane k) o op outcome lane run is_op) (still_mid board valid h on (ByLane k) o op outcome lane run is_op)
      (4 * length (way board op (end_of board lane)) + 4) (stage_k board valid h on (ByLane k) o op outcome lane run is_op k three) (omega arith)
      (λ master. let way_ends = WayEnds-tree board op tree master.bus in sum_mid board valid h on (ByLane k) o op outcome lane run is_op (way board op master.bus) way_ends.no_bridge_twice)

  -- a lane claims it
  lane_lowers : (by : By) (step : Step) (lane : BridgeLane) → is_stall step ≡ false → Run board (Act on by o step (Lane lane) ∷ h) → claim board on (request_on op on) ≡ Lane lane
      → left_of board (Act on by o step (Lane lane) ∷ h) + 1 ≤ left_of board h
  lane_lowers by Land lane moves run claims = let at = answered_at board h on by o Land lane run.0.1 in absurd at.gives
  lane_lowers by (Part phases) lane moves run claims = let at = answered_at board h on by o (Part phases) lane run.0.1 in absurd at.gives
  lane_lowers by (Read value) lane moves run claims = let at = answered_at board h on by o (Read value) lane run.0.1 in absurd at.gives
  lane_lowers by Accept lane moves run claims =
      let at = answered_at board h on by o Accept lane run.0.1 in
      let of_op = request_is_of board o on at.request at.is_request in
      let ops : of_op.op ≡ op = one_op (op_of board o) of_op.op op of_op.is_op is_op in
      let posted : same_command (command_of of_op.op) MemWrite ≡ true = subst (λ (r : Request). same_command r.command MemWrite ≡ true) of_op.is_request at.gives.0 in
      let posted_op : same_command (command_of op) MemWrite ≡ true = subst (λ p. same_command (command_of p) MemWrite ≡ true) ops posted in
      let impossible : true ≡ false = sym posted_op ∙ delayed in
      cc
  lane_lowers by Latch lane moves run claims = latch_lowers board valid h on by o op lane run is_op delayed (nothing_parted board valid h on by o op Latch (Lane lane) run is_op delayed)
  lane_lowers by (Take outcome) lane moves run claims = take_lowers by outcome lane run claims
  lane_lowers by Stall lane moves run claims = cc
  lane_lowers by MasterAbort lane moves run claims = let at = answered_at board h on by o MasterAbort lane run.0.1 in absurd at.gives
  lane_lowers by TargetAbort lane moves run claims = let at = answered_at board h on by o TargetAbort lane run.0.1 in absurd at.gives

  -- by who claims it
  pub act_lowers : (by : By) (step : Step) (place : Place) → is_stall step ≡ false → Run board (Act on by o step place ∷ h) → left_of board (Act on by o step place ∷ h) + 1 ≤ left_of board h
  act_lowers by step place moves run =
      let P : Place → Type 0 = λ claimant. claim board on (request_on op on) ≡ claimant → left_of board (Act on by o step place ∷ h) + 1 ≤ left_of board h in
      (elim (claim board on (request_on op on)) as P [
        | Target target ↦ λ claims. ends_lowers by step place moves run (ap is_lane claims)
        | Header bus ↦ λ claims. ends_lowers by step place moves run (ap is_lane claims)
        | Lane lane ↦ λ claims.
            let at : place ≡ Lane lane = lane_there board valid h on by o op step place run is_op delayed lane claims in
            let F : Place → Type 0 = λ p. Run board (Act on by o step p ∷ h) → left_of board (Act on by o step p ∷ h) + 1 ≤ left_of board h in
            let there : F (Lane lane) = λ run_there. lane_lowers by step lane moves run_there claims in
            subst F (sym at) there run
        | Nobody ↦ λ claims. ends_lowers by step place moves run (ap is_lane claims)
      ]) refl
