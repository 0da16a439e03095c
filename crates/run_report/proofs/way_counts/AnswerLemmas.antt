-- How an operation of a steady board is answered: by its last step where its way ends, and else by the lane that claims it.
use Rattle.std.proofs.Common.{◌≡◌, ℕ, ◌+◌, ◌*◌, ◌≤◌, ◌==◌, Bool, true, false, cond, nat_lt, List, length, Option, Some, None, refl, sym, ap, subst, ◌∙◌, arith, slice_get, eqb-true}
use Rattle.std.proofs.lemmas.Bool.{and_parts}
use Rattle.std.proofs.lemmas.Bool.Decides.{nat_tests}
use Rattle.list_facts.proofs.TestLemmas.{list_all-get}
use Rattle.pci_command.specs.declared.request.Request.{Request}
use Rattle.pci_command.specs.declared.op_id.OpId.{OpId}
use Rattle.pci_command.specs.Command.{space_of, is_read}
use Rattle.board_model.specs.declared.agents.Target.{Target as TargetAgent}
use Rattle.board_model.specs.declared.bridge.Bridge.{Bridge}
use Rattle.board_model.specs.declared.bridge.Place.{Place}
use Rattle.board_model.specs.declared.bridge.Place.TheVariants.{Target, Header, Lane, Nobody}
use Rattle.board_model.specs.declared.op.Op.{Op}
use Rattle.board_model.specs.declared.board.Board.{Board}
use Rattle.board_model.specs.Requests.{op_of, phases_of, request_on, request_of}
use Rattle.board_model.specs.Claims.{claim}
use Rattle.board_model.specs.Ways.{aborts_at, address_in, is_lane}
use Rattle.history_model.specs.declared.event.By.{By}
use Rattle.history_model.specs.declared.event.Step.{Step}
use Rattle.history_model.specs.declared.event.Step.TheVariants as steps
use Rattle.history_model.specs.declared.event.Event.{Event}
use Rattle.history_model.specs.declared.item.Answer.TheVariants.{Gives}
use Rattle.history_model.specs.World.{world_of}
use Rattle.history_model.specs.Words.{through, without, value_of}
use Rattle.history_model.specs.Answers.{stalls_used, target_step, target_answer, header_answer, bridge_to, answer_by, answer_to, answer}
use Rattle.run_report.specs.declared.tallies.CountedKind.{CountedKind}
use Rattle.run_report.specs.declared.tallies.CountedKind.TheVariants.{Land, Read, MasterAbort, TargetAbort}
use Rattle.run_report.specs.Counts.{kind_of_step}
use Rattle.run_report.specs.way_counts.Plain.{is_ready, IsSteady}
use Rattle.run_report.specs.way_counts.WayCounts.{target_kind, header_kind, last_kind}

-- a step that ends the way of an operation
abbrev pub IsLast : Step → Type 0
IsLast steps.Land = Unit {0}
IsLast (steps.Part phases) = ⊥
IsLast (steps.Read value) = Unit {0}
IsLast steps.Accept = ⊥
IsLast steps.Latch = ⊥
IsLast (steps.Take outcome) = ⊥
IsLast steps.Stall = ⊥
IsLast steps.MasterAbort = Unit {0}
IsLast steps.TargetAbort = Unit {0}

-- the last step, of this kind, at a place that is no lane
pub record Last (step : Step) (place : Place) (kind : CountedKind) : Type 0 where
  pub is_last : IsLast step
  pub is_kind : kind_of_step step ≡ kind
  pub no_lane : is_lane place ≡ false

last_of : (step given : Step) (place at : Place) (kind : CountedKind) → Gives step place ≡ Gives given at → IsLast step → kind_of_step step ≡ kind → is_lane place ≡ false → Last given at kind
last_of step given place at kind same last is none =
    let steps_same : step ≡ given = cc in
    let places : place ≡ at = cc in
    record { is_last = subst IsLast steps_same last; is_kind = subst (λ s. kind_of_step s ≡ kind) steps_same is; no_lane = subst (λ p. is_lane p ≡ false) places none }

module _ (board : Board) (steady : IsSteady board) where
  -- a target has no stall tokens, and takes what it is given whole
  target_last : (h : List Event) (place : ℕ) (request : Request) (target : TargetAgent) → is_ready target ≡ true → length request.phases ≤ 8
      → IsLast (target_step board h place request target) × (kind_of_step (target_step board h place request target) ≡ target_kind request (Some target))
  target_last h place request target ready short =
      let parts = and_parts (target.stalls == 0) (target.burst == 8) ready in
      let none : target.stalls ≡ 0 = eqb-true target.stalls 0 parts.0 in
      let all : target.burst ≡ 8 = eqb-true target.burst 8 parts.1 in
      let no_stall : nat_lt (stalls_used h place) target.stalls ≡ false = grind (arith, nat_tests) in
      let no_part : nat_lt target.burst (length request.phases) ≡ false = grind (arith, nat_tests) in
      let reads : Step = steps.Read (value_of board h (record { target = place; space = space_of request.command; address = address_in (space_of request.command) request.address })) in
      let T : Step → CountedKind → Type 0 = λ step kind. IsLast step × (kind_of_step step ≡ kind) in
      let A : Bool → Type 0 = λ b. T (cond b (steps.Part target.burst) steps.Land) Land in
      let a : A (nat_lt target.burst (length request.phases)) = subst A (sym no_part) (tt, refl) in
      let writes : Step = cond (nat_lt target.burst (length request.phases)) (steps.Part target.burst) steps.Land in
      let B : Bool → Type 0 = λ b. T (cond b reads writes) (cond b Read Land) in
      let b : B (is_read request.command) = elim (is_read request.command) as B [ true ↦ (tt, refl) | false ↦ a ] in
      let C : Bool → Type 0 = λ c. T (cond c steps.TargetAbort (cond (is_read request.command) reads writes)) (cond c TargetAbort (cond (is_read request.command) Read Land)) in
      let c : C (aborts_at target request) = elim (aborts_at target request) as C [ true ↦ (tt, refl) | false ↦ b ] in
      let D : Bool → Type 0 = λ d. T (cond d steps.Stall (cond (aborts_at target request) steps.TargetAbort (cond (is_read request.command) reads writes))) (target_kind request (Some target)) in
      subst D (sym no_stall) c

  target_ends : (h : List Event) (place : ℕ) (request : Request) (found : Option TargetAgent) (step : Step) (at : Place) → slice_get board.targets place ≡ found → length request.phases ≤ 8
      → target_answer board h place request found ≡ Gives step at → Last step at (target_kind request found)
  target_ends h place request None step at is short gives = last_of steps.MasterAbort step Nobody at MasterAbort gives tt refl refl
  target_ends h place request (Some target) step at is short gives =
      let ready : is_ready target ≡ true = list_all-get is_ready board.targets place target steady.targets is in
      let last = target_last h place request target ready short in
      last_of (target_step board h place request target) step (Target place) at (target_kind request (Some target)) gives last.0 last.1 refl

  header_ends : (bus : ℕ) (request : Request) (found : Option Bridge) (step : Step) (at : Place) → header_answer bus request found ≡ Gives step at → Last step at (header_kind found)
  header_ends bus request None step at gives = last_of steps.MasterAbort step Nobody at MasterAbort gives tt refl refl
  header_ends bus request (Some bridge) step at gives = last_of (steps.Read _) step (Header bus) at Read gives tt refl refl

  -- where no lane claims it
  place_ends : (h : List Event) (on : ℕ) (by : By) (o : OpId) (request : Request) (claimant : Place) (step : Step) (at : Place) → is_lane claimant ≡ false → length request.phases ≤ 8
      → answer_by board (world_of board h) h on by o request claimant ≡ Gives step at → Last step at (last_kind board request claimant)
  place_ends h on by o request (Target target) step at none short gives = target_ends h target request (slice_get board.targets target) step at refl short gives
  place_ends h on by o request (Header bus) step at none short gives = header_ends bus request (bridge_to board bus) step at gives
  place_ends h on by o request (Lane lane) step at none short gives = cc
  place_ends h on by o request Nobody step at none short gives = last_of steps.MasterAbort step Nobody at MasterAbort gives tt refl refl

  -- nothing is left out of a request of which nothing went through
  without_none : (request : Request) (k : ℕ) → k ≡ 0 → without k request ≡ request
  without_none request k none =
      let whole : request.address + 4 * 0 ≡ request.address = omega arith in
      ap (λ n. without n request) none ∙ ap (λ a. record { command = request.command; address = a; phases = request.phases }) whole

  pub whole_answer : (h : List Event) (on : ℕ) (by : By) (o : OpId) (op : Op) (step : Step) (at : Place) → op_of board o ≡ Some op → through h o ≡ 0 → answer board h on by o ≡ Gives step at
      → answer_by board (world_of board h) h on by o (request_on op on) (claim board on (request_on op on)) ≡ Gives step at
  whole_answer h on by o op step at is_op none gives =
      let requested : request_of board o on ≡ Some (request_on op on) = rw is_op refl in
      let F : Option Request → Type 0 = λ some. answer_to board (world_of board h) h on by o some ≡ Gives step at in
      let G : Request → Type 0 = λ request. answer_by board (world_of board h) h on by o request (claim board on request) ≡ Gives step at in
      subst G (without_none (request_on op on) (through h o) none) (subst F requested gives)

  pub ends_there : (h : List Event) (on : ℕ) (by : By) (o : OpId) (op : Op) (step : Step) (at : Place) → op_of board o ≡ Some op → length (phases_of op) ≤ 8 → through h o ≡ 0 → answer board h on by o ≡ Gives step at
      → is_lane (claim board on (request_on op on)) ≡ false → Last step at (last_kind board (request_on op on) (claim board on (request_on op on)))
  ends_there h on by o op step at is_op short none gives no_lane =
      place_ends h on by o (request_on op on) (claim board on (request_on op on)) step at no_lane short (whole_answer h on by o op step at is_op none gives)
