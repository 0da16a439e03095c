-- Who claims a write in memory that lands, and how much of it is left.
use Rattle.std.proofs.Common.{◌≡◌, ℕ, zero, suc, ◌+◌, ◌*◌, ◌<◌, ◌≤◌, Bool, true, false, cond, nat_lt, List, [], ◌∷◌, length, drop, Option, Some, None, refl, sym, ap, subst, ◌∙◌, arith, slice_get}
use Rattle.std.specs.List.{find}
use Rattle.std.proofs.lemmas.List.{length-drop}
use Rattle.std.proofs.lemmas.Bool.Decides.{nat_tests}
use Rattle.pci_command.specs.declared.phases.Phase.{Phase}
use Rattle.pci_command.specs.declared.request.Request.{Request}
use Rattle.pci_command.specs.declared.op_id.OpId.{OpId}
use Rattle.pci_command.specs.Command.{is_read, space_of}
use Rattle.pci_command.specs.Same.{same_op}
use Rattle.board_model.specs.declared.agents.Target.{Target as TargetAgent}
use Rattle.board_model.specs.declared.bridge.Bridge.{Bridge}
use Rattle.board_model.specs.declared.bridge.Lane.{Lane as BridgeLane}
use Rattle.board_model.specs.declared.bridge.Place.{Place}
use Rattle.board_model.specs.declared.bridge.Place.TheVariants.{Target, Header, Lane, Nobody}
use Rattle.board_model.specs.declared.board.Board.{Board}
use Rattle.board_model.specs.declared.op.Op.{Op}
use Rattle.board_model.specs.Requests.{op_of, phases_of, request_on, request_of, is_posted}
use Rattle.board_model.specs.Claims.{claim_in_space, claim}
use Rattle.board_model.specs.Ways.{aborts_at, address_in, lane_back}
use Rattle.history_model.specs.declared.event.By.{By}
use Rattle.history_model.specs.declared.event.Step.{Step}
use Rattle.history_model.specs.declared.event.Step.TheVariants.{Land, Part, Read, Accept, Latch, Take, Stall, MasterAbort, TargetAbort}
use Rattle.history_model.specs.declared.event.Event.{Event}
use Rattle.history_model.specs.declared.event.Event.TheVariants.{Act, Arrive}
use Rattle.history_model.specs.declared.item.Answer.{Answer}
use Rattle.history_model.specs.declared.item.Answer.TheVariants.{Gives, Retry}
use Rattle.history_model.specs.declared.item.Cause.TheVariants.{Full}
use Rattle.history_model.specs.World.{World, is_own, world_of}
use Rattle.history_model.specs.Words.{phases_parted, parted_by, through, without, value_of}
use Rattle.history_model.specs.Answers.{stalls_used, target_step, target_answer, delayed_answer, posted_answer, lane_answer, bridge_to, answer_by, answer_to, answer}
use Rattle.history_model.specs.Runs.{Allowed, Run}
use Rattle.history_model.proofs.facts.RequestLemmas.{same_op_true}
use Rattle.law_lanes.specs.order.Order.{is_posted_in, is_posted_op}
use Rattle.law_lanes.specs.order.OnWay.{WritesHaveOneClaimant}
use Rattle.history_model.proofs.facts.PostedLemmas.{IsTarget, write_not_read, memory_no_header}

-- a write lands, whole or in part, only where a target claims it, and a part leaves something
abbrev pub LandsAt : ℕ → Step → Place → Type 0
LandsAt long Land claimant = IsTarget claimant
LandsAt long (Part phases) claimant = IsTarget claimant × (phases < long)
LandsAt long (Read value) claimant = Unit {0}
LandsAt long Accept claimant = Unit {0}
LandsAt long Latch claimant = Unit {0}
LandsAt long (Take outcome) claimant = Unit {0}
LandsAt long Stall claimant = Unit {0}
LandsAt long MasterAbort claimant = Unit {0}
LandsAt long TargetAbort claimant = Unit {0}

target_lands : (board : Board) (h : List Event) (place : ℕ) (request : Request) (target : TargetAgent) → LandsAt (length request.phases) (target_step board h place request target) (Target place)
target_lands board h place request target =
    let long : ℕ = length request.phases in
    let P : Step → Type 0 = λ step. LandsAt long step (Target place) in
    let reads : Step = Read (value_of board h (record { target = place; space = space_of request.command; address = address_in (space_of request.command) request.address })) in
    let A : Bool → Type 0 = λ b. nat_lt target.burst long ≡ b → P (cond b (Part target.burst) Land) in
    let a : P (cond (nat_lt target.burst long) (Part target.burst) Land) = (elim (nat_lt target.burst long) as A [ true ↦ λ below. (tt, grind (arith, nat_tests)) | false ↦ λ _. tt ]) refl in
    let B : Bool → Type 0 = λ b. P (cond b reads (cond (nat_lt target.burst long) (Part target.burst) Land)) in
    let b : B (is_read request.command) = elim (is_read request.command) as B [ true ↦ tt | false ↦ a ] in
    let C : Bool → Type 0 = λ c. P (cond c TargetAbort (cond (is_read request.command) reads (cond (nat_lt target.burst long) (Part target.burst) Land))) in
    let c : C (aborts_at target request) = elim (aborts_at target request) as C [ true ↦ tt | false ↦ b ] in
    let D : Bool → Type 0 = λ d. P (cond d Stall (cond (aborts_at target request) TargetAbort (cond (is_read request.command) reads (cond (nat_lt target.burst long) (Part target.burst) Land)))) in
    elim (nat_lt (stalls_used h place) target.stalls) as D [ true ↦ tt | false ↦ c ]

gives_lands : (long : ℕ) (step given : Step) (place at claimant : Place) → Gives step place ≡ Gives given at → LandsAt long step claimant → LandsAt long given claimant
gives_lands long step given place at claimant same lands =
    let steps : step ≡ given = cc in
    subst (λ s. LandsAt long s claimant) steps lands

target_claims : (board : Board) (h : List Event) (place : ℕ) (request : Request) (found : Option TargetAgent) (step : Step) (at : Place)
    → target_answer board h place request found ≡ Gives step at → LandsAt (length request.phases) step (Target place)
target_claims board h place request None step at gives = gives_lands (length request.phases) MasterAbort step Nobody at (Target place) gives tt
target_claims board h place request (Some target) step at gives =
    gives_lands (length request.phases) (target_step board h place request target) step (Target place) at (Target place) gives (target_lands board h place request target)

pub lane_claims : (board : Board) (world : World) (on : ℕ) (by : By) (o : OpId) (request : Request) (lane : BridgeLane) (found : Option Bridge) (step : Step) (at : Place) → is_posted request ≡ true
    → lane_answer board world on by o request lane found ≡ Gives step at → LandsAt (length request.phases) step (Lane lane)
lane_claims board world on by o request lane None step at posted gives = gives_lands (length request.phases) MasterAbort step Nobody at (Lane lane) gives tt
lane_claims board world on by o request lane (Some bridge) step at posted gives =
    let other : Answer = delayed_answer board (is_read request.command) bridge.delayed lane (world lane).held (world (lane_back lane)).standing (find (is_own board on by o) (world lane).held) in
    let one : Answer = posted_answer (world lane).owed bridge.posted lane in
    let F : Bool → Type 0 = λ b. cond b one other ≡ Gives step at in
    let P : Bool → Type 0 = λ b. cond b (Gives Accept (Lane lane)) (Retry Full) ≡ Gives step at → LandsAt (length request.phases) step (Lane lane) in
    (elim (nat_lt (world lane).owed bridge.posted) as P [
      | true ↦ λ e. gives_lands (length request.phases) Accept step (Lane lane) at (Lane lane) e tt
      | false ↦ λ e. cc
    ]) (subst F posted gives)

place_claims : (board : Board) (h : List Event) (on : ℕ) (by : By) (o : OpId) (request : Request) (place : Place) (step : Step) (at : Place) → is_posted request ≡ true
    → claim board on request ≡ place → answer_by board (world_of board h) h on by o request place ≡ Gives step at → LandsAt (length request.phases) step place
place_claims board h on by o request (Target target) step at posted claims gives = target_claims board h target request (slice_get board.targets target) step at gives
place_claims board h on by o request (Header bus) step at posted claims gives =
    absurd (memory_no_header board on request bus (write_not_read request.command posted).1 claims)
place_claims board h on by o request (Lane lane) step at posted claims gives =
    lane_claims board (world_of board h) on by o request lane (bridge_to board lane.bus) step at posted gives
place_claims board h on by o request Nobody step at posted claims gives = gives_lands (length request.phases) MasterAbort step Nobody at Nobody gives tt

pub write_lands : (board : Board) (h : List Event) (on : ℕ) (by : By) (o : OpId) (request : Request) (step : Step) (at : Place) → request_of board o on ≡ Some request → is_posted request ≡ true
    → answer board h on by o ≡ Gives step at → LandsAt (length (drop (through h o) request.phases)) step (claim board on (without (through h o) request))
write_lands board h on by o request step at is_request posted gives =
    let F : Option Request → Type 0 = λ some. answer_to board (world_of board h) h on by o some ≡ Gives step at in
    let rest : Request = without (through h o) request in
    place_claims board h on by o rest (claim board on rest) step at posted refl (subst F is_request gives)

-- less than the whole of a write went through
abbrev pub Short : ℕ → ℕ → Type 0
Short gone long = 1 ≤ gone → gone < long

same_short : (gone long : ℕ) → Short gone long → Short (0 + gone) long
same_short gone long old = λ some. omega (arith, old (omega (arith, some)))

step_short : (step : Step) (gone : ℕ) (phases : List Phase) (claimant : Place) → LandsAt (length (drop gone phases)) step claimant → Short gone (length phases) → Short (phases_parted step + gone) (length phases)
step_short Land gone phases claimant lands old = same_short gone (length phases) old
step_short (Part number) gone phases claimant lands old = λ some. omega (arith, lands.1, length-drop gone phases)
step_short (Read value) gone phases claimant lands old = same_short gone (length phases) old
step_short Accept gone phases claimant lands old = same_short gone (length phases) old
step_short Latch gone phases claimant lands old = same_short gone (length phases) old
step_short (Take outcome) gone phases claimant lands old = same_short gone (length phases) old
step_short Stall gone phases claimant lands old = same_short gone (length phases) old
step_short MasterAbort gone phases claimant lands old = same_short gone (length phases) old
step_short TargetAbort gone phases claimant lands old = same_short gone (length phases) old

event_short : (board : Board) (h : List Event) (o : OpId) (op : Op) (e : Event) → op_of board o ≡ Some op → is_posted_op board o ≡ true → Allowed board h e → Short (through h o) (length (phases_of op)) → Short (parted_by o e + through h o) (length (phases_of op))
event_short board h o op (Act on by p step place) is_op posted allowed old =
    let gone : ℕ = through h o in
    let P : Bool → Type 0 = λ b. same_op p o ≡ b → Short (cond b (phases_parted step) 0 + gone) (length (phases_of op)) in
    (elim (same_op p o) as P [
      | true ↦ λ same.
          let one : p ≡ o = same_op_true p o same in
          let given : answer board h on by o ≡ Gives step place = subst (λ q. answer board h on by q ≡ Gives step place) one allowed.1 in
          let requested : request_of board o on ≡ Some (request_on op on) = rw is_op refl in
          let write : is_posted (request_on op on) ≡ true = sym (ap is_posted_in is_op) ∙ posted in
          step_short step gone (phases_of op) (claim board on (without gone (request_on op on))) (write_lands board h on by o (request_on op on) step place requested write given) old
      | false ↦ λ _. same_short gone (length (phases_of op)) old
    ]) refl
event_short board h o op (Arrive lane mark) is_op posted allowed old = same_short (through h o) (length (phases_of op)) old

pub Short-run : (board : Board) (h : List Event) (o : OpId) (op : Op) → op_of board o ≡ Some op → is_posted_op board o ≡ true → Run board h → Short (through h o) (length (phases_of op))
Short-run board [] o op is_op posted run = λ some. absurd (omega (arith, some))
Short-run board (e ∷ h) o op is_op posted run = event_short board h o op e is_op posted run.0 (Short-run board h o op is_op posted run.1)

-- so what is left of a write is claimed by whom the whole is
pub claims_from : (board : Board) (o : OpId) (on : ℕ) (request : Request) (gone : ℕ) → WritesHaveOneClaimant board → request_of board o on ≡ Some request → is_posted request ≡ true
    → Short gone (length request.phases) → claim board on (without gone request) ≡ claim board on request
claims_from board o on request zero one is posted short =
    let whole : request.address + 4 * 0 ≡ request.address = omega arith in
    ap (claim_in_space board on (space_of request.command)) whole
claims_from board o on request (suc gone) one is posted short = one o on request (suc gone) is posted (short (omega arith))

pub rest_claimed : (board : Board) (h : List Event) (o : OpId) (op : Op) (on : ℕ) → WritesHaveOneClaimant board → op_of board o ≡ Some op → is_posted_op board o ≡ true → Run board h
    → claim board on (without (through h o) (request_on op on)) ≡ claim board on (request_on op on)
rest_claimed board h o op on one is_op posted run =
    let requested : request_of board o on ≡ Some (request_on op on) = rw is_op refl in
    let write : is_posted (request_on op on) ≡ true = sym (ap is_posted_in is_op) ∙ posted in
    claims_from board o on (request_on op on) (through h o) one requested write (Short-run board h o op is_op posted run)
