-- Only a write with several data phases is taken in parts.
use Rattle.std.proofs.Common.{◌≡◌, ℕ, ◌<◌, ◌≤◌, Bool, true, false, cond, nat_lt, List, [], ◌∷◌, length, drop, Option, Some, None, refl, ap, subst, ◌∙◌, arith, slice_get}
use Rattle.std.specs.List.{find, list_all, AllByRecursion}
use Rattle.std.proofs.lemmas.Bool.Decides.{nat_tests}
use Rattle.list_facts.specs.Lists.{before}
use Rattle.pci_command.specs.declared.request.Request.{Request}
use Rattle.pci_command.specs.declared.op_id.OpId.{OpId}
use Rattle.pci_command.specs.Command.{is_read, space_of}
use Rattle.pci_command.specs.Same.{same_op}
use Rattle.board_model.specs.declared.agents.Target.{Target as TargetAgent}
use Rattle.board_model.specs.declared.bridge.Bridge.{Bridge}
use Rattle.board_model.specs.declared.bridge.Lane.{Lane as BridgeLane}
use Rattle.board_model.specs.declared.bridge.Place.{Place}
use Rattle.board_model.specs.declared.bridge.Place.TheVariants.{Target, Header, Lane, Nobody}
use Rattle.board_model.specs.declared.board.Board.{Board}
use Rattle.board_model.specs.declared.op.Op.{Op}
use Rattle.board_model.specs.Requests.{request_of, is_posted, phases_of, op_of, tries_of}
use Rattle.board_model.specs.Claims.{claim}
use Rattle.board_model.specs.Ways.{aborts_at, address_in, lane_back}
use Rattle.history_model.specs.declared.event.By.{By}
use Rattle.history_model.specs.declared.event.Step.{Step}
use Rattle.history_model.specs.declared.event.Step.TheVariants.{Land, Part, Read, Accept, Latch, Take, Stall, MasterAbort, TargetAbort}
use Rattle.history_model.specs.declared.event.Event.{Event}
use Rattle.history_model.specs.declared.event.Event.TheVariants.{Act, Arrive}
use Rattle.history_model.specs.declared.item.Carried.{Carried}
use Rattle.history_model.specs.declared.item.Carried.TheVariants.{Post, Ask, Done, Room, Gone}
use Rattle.history_model.specs.declared.item.Slot.{Slot}
use Rattle.history_model.specs.declared.item.Answer.{Answer}
use Rattle.history_model.specs.declared.item.Answer.TheVariants.{Gives, Retry}
use Rattle.history_model.specs.declared.item.Cause.TheVariants.{Full, NoSlot, Behind}
use Rattle.history_model.specs.Lanes.{is_done_for}
use Rattle.history_model.specs.World.{World, is_own, world_of}
use Rattle.history_model.specs.Words.{phases_parted, parted_by, through, without, value_of}
use Rattle.history_model.specs.Answers.{stalls_used, target_step, target_answer, header_answer, completion_passes, completion_answer, delayed_answer, posted_answer, lane_answer, bridge_to, answer_by, answer_to, answer}
use Rattle.history_model.specs.Runs.{Allowed, Run}
use Rattle.law_lanes.specs.Phases.{DelayedAreSingle, IsPostedOrSingle}
use Rattle.history_model.proofs.facts.RequestLemmas.{same_op_true, request_is_of}
use Rattle.std.specs.Option.{option_and_then}
use Rattle.std.proofs.lemmas.Option.{cond_some}
use Rattle.board_model.specs.declared.agents.Master.{Master}
use Rattle.list_facts.proofs.EachLemmas.{Each-slice_get}

-- an operation that is there stands in the program of its master
pub op_single : (board : Board) (o : OpId) (op : Op) → DelayedAreSingle board → op_of board o ≡ Some op → IsPostedOrSingle op
op_single board o op single is =
    let E : Master → Type 0 = λ master. AllByRecursion IsPostedOrSingle master.ops in
    let here : Op → Option Op = λ p. cond (nat_lt o.attempt (tries_of p)) (Some p) None in
    let P : Option Master → Type 0 = λ found. slice_get board.masters o.master ≡ found → option_and_then here (option_and_then (λ master. slice_get master.ops o.index) found) ≡ Some op → IsPostedOrSingle op in
    (elim (slice_get board.masters o.master) as P [
      | None ↦ λ _ e. cc
      | Some master ↦ λ is_master e.
          let Q : Option Op → Type 0 = λ found. slice_get master.ops o.index ≡ found → option_and_then here found ≡ Some op → IsPostedOrSingle op in
          (elim (slice_get master.ops o.index) as Q [
            | None ↦ λ _ f. cc
            | Some p ↦ λ is_op f.
                let same : p ≡ op = (cond_some (nat_lt o.attempt (tries_of p)) p op f).1 in
                subst IsPostedOrSingle same
                (Each-slice_get IsPostedOrSingle master.ops o.index p (Each-slice_get E board.masters o.master master single is_master) is_op)
          ]) refl e
    ]) refl is

-- no lane of a bridge takes a part
completion_no_part : (board : Board) (read : Bool) (at : BridgeLane) (older : List Carried) (item : Option Carried) (phases : ℕ) (place : Place) → completion_answer board read at older item ≡ Gives (Part phases) place → ⊥
completion_no_part board read at older None phases place gives = cc
completion_no_part board read at older (Some (Post op)) phases place gives = cc
completion_no_part board read at older (Some (Ask op slot)) phases place gives = cc
completion_no_part board read at older (Some (Done op slot outcome)) phases place gives =
    let P : Bool → Type 0 = λ b. cond b (Gives (Take outcome) (Lane at)) (Retry Behind) ≡ Gives (Part phases) place → ⊥ in
    (elim (list_all (completion_passes board read) older) as P [ true ↦ λ e. cc | false ↦ λ e. cc ]) gives
completion_no_part board read at older (Some Room) phases place gives = cc
completion_no_part board read at older (Some (Gone slot)) phases place gives = cc

delayed_no_part : (board : Board) (read : Bool) (depth : ℕ) (at : BridgeLane) (held : List Slot) (coming : List Carried) (own : Option Slot) (phases : ℕ) (place : Place) → delayed_answer board read depth at held coming own ≡ Gives (Part phases) place → ⊥
delayed_no_part board read depth at held coming None phases place gives =
    let P : Bool → Type 0 = λ b. cond b (Gives Latch (Lane at)) (Retry NoSlot) ≡ Gives (Part phases) place → ⊥ in
    (elim (nat_lt (length held) depth) as P [ true ↦ λ e. cc | false ↦ λ e. cc ]) gives
delayed_no_part board read depth at held coming (Some slot) phases place gives =
    completion_no_part board read at (before (is_done_for slot.number) coming) (find (is_done_for slot.number) coming) phases place gives

posted_no_part : (owed depth : ℕ) (at : BridgeLane) (phases : ℕ) (place : Place) → posted_answer owed depth at ≡ Gives (Part phases) place → ⊥
posted_no_part owed depth at phases place gives =
    let P : Bool → Type 0 = λ b. cond b (Gives Accept (Lane at)) (Retry Full) ≡ Gives (Part phases) place → ⊥ in
    (elim (nat_lt owed depth) as P [ true ↦ λ e. cc | false ↦ λ e. cc ]) gives

pub lane_no_part : (board : Board) (world : World) (on : ℕ) (by : By) (o : OpId) (request : Request) (at : BridgeLane) (found : Option Bridge) (phases : ℕ) (place : Place)
    → lane_answer board world on by o request at found ≡ Gives (Part phases) place → ⊥
lane_no_part board world on by o request at None phases place gives = cc
lane_no_part board world on by o request at (Some bridge) phases place gives =
    let own : Option Slot = find (is_own board on by o) (world at).held in
    let one : Answer = posted_answer (world at).owed bridge.posted at in
    let other : Answer = delayed_answer board (is_read request.command) bridge.delayed at (world at).held (world (lane_back at)).standing own in
    let P : Bool → Type 0 = λ b. cond b one other ≡ Gives (Part phases) place → ⊥ in
    (elim (is_posted request) as P [
      | true ↦ λ e. posted_no_part (world at).owed bridge.posted at phases place e
      | false ↦ λ e. delayed_no_part board (is_read request.command) bridge.delayed at (world at).held (world (lane_back at)).standing own phases place e
    ]) gives

-- a target takes fewer data phases in a part than are left
target_part : (board : Board) (h : List Event) (target : ℕ) (request : Request) (agent : TargetAgent) (phases : ℕ) → target_step board h target request agent ≡ Part phases → phases < length request.phases
target_part board h target request agent phases is =
    let read : Step = Read (value_of board h (record { target = target; space = space_of request.command; address = address_in (space_of request.command) request.address })) in
    let last : Step = cond (nat_lt agent.burst (length request.phases)) (Part agent.burst) Land in
    let P : Bool → Type 0 = λ b. cond b Stall (cond (aborts_at agent request) TargetAbort (cond (is_read request.command) read last)) ≡ Part phases → phases < length request.phases in
    let Q : Bool → Type 0 = λ b. cond b TargetAbort (cond (is_read request.command) read last) ≡ Part phases → phases < length request.phases in
    let R : Bool → Type 0 = λ b. cond b read last ≡ Part phases → phases < length request.phases in
    let S : Bool → Type 0 = λ b. nat_lt agent.burst (length request.phases) ≡ b → cond b (Part agent.burst) Land ≡ Part phases → phases < length request.phases in
    (elim (nat_lt (stalls_used h target) agent.stalls) as P [
      | true ↦ λ e. cc
      | false ↦ λ e. (elim (aborts_at agent request) as Q [
        | true ↦ λ f. cc
        | false ↦ λ f. (elim (is_read request.command) as R [
          | true ↦ λ g. cc
          | false ↦ λ g. (elim (nat_lt agent.burst (length request.phases)) as S [
            | true ↦ λ below k. let same : agent.burst ≡ phases = cc in grind (arith, nat_tests)
            | false ↦ λ _ k. cc
          ]) refl g
        ]) f
      ]) e
    ]) is

place_part : (board : Board) (h : List Event) (on : ℕ) (by : By) (o : OpId) (rest : Request) (owner : Place) (phases : ℕ) (place : Place) → answer_by board (world_of board h) h on by o rest owner ≡ Gives (Part phases) place → phases < length rest.phases
place_part board h on by o rest (Target target) phases place gives =
    let P : Option TargetAgent → Type 0 = λ found. target_answer board h target rest found ≡ Gives (Part phases) place → phases < length rest.phases in
    (elim (slice_get board.targets target) as P [
      | None ↦ λ e. cc
      | Some agent ↦ λ e. target_part board h target rest agent phases (let same : target_step board h target rest agent ≡ Part phases = cc in same)
    ]) gives
place_part board h on by o rest (Header bus) phases place gives =
    let P : Option Bridge → Type 0 = λ found. header_answer bus rest found ≡ Gives (Part phases) place → phases < length rest.phases in
    (elim (bridge_to board bus) as P [ None ↦ λ e. cc | Some bridge ↦ λ e. cc ]) gives
place_part board h on by o rest (Lane at) phases place gives = absurd (lane_no_part board (world_of board h) on by o rest at (bridge_to board at.bus) phases place gives)
place_part board h on by o rest Nobody phases place gives = cc

-- the request that is taken in parts has more data phases left
pub record PartLeft (board : Board) (h : List Event) (on : ℕ) (o : OpId) (phases : ℕ) : Type 0 where
  pub request : Request
  pub is_request : request_of board o on ≡ Some request
  pub fewer : phases < length (drop (through h o) request.phases)

pub answered_part : (board : Board) (h : List Event) (on : ℕ) (by : By) (o : OpId) (phases : ℕ) (place : Place) → answer board h on by o ≡ Gives (Part phases) place → PartLeft board h on o phases
answered_part board h on by o phases place gives =
    let P : Option Request → Type 0 = λ found. request_of board o on ≡ found → answer_to board (world_of board h) h on by o found ≡ Gives (Part phases) place → PartLeft board h on o phases in
    (elim (request_of board o on) as P [
      | None ↦ λ _ e. cc
      | Some request ↦ λ is e.
          let rest : Request = without (through h o) request in
          record { request = request; is_request = is; fewer = place_part board h on by o rest (claim board on rest) phases place e }
    ]) refl gives

-- a request with one data phase is not taken in parts
single_step : (board : Board) (h : List Event) (on : ℕ) (by : By) (o : OpId) (op : Op) (step : Step) (place : Place) → op_of board o ≡ Some op → length (phases_of op) ≤ 1 → through h o ≡ 0
    → answer board h on by o ≡ Gives step place → phases_parted step ≡ 0
single_step board h on by o op Land place is single none gives = refl
single_step board h on by o op (Part phases) place is single none gives =
    let left = answered_part board h on by o phases place gives in
    let of_op = request_is_of board o on left.request left.is_request in
    let same : of_op.op ≡ op = let known = of_op.is_op in cc in
    let F : ℕ → Type 0 = λ k. phases < length (drop k left.request.phases) in
    let fewer : phases < length left.request.phases = subst F none left.fewer in
    let phases_same : left.request.phases ≡ phases_of op = ap (λ r. r.phases) of_op.is_request ∙ ap phases_of same in
    let lengths = ap length phases_same in
    omega arith
single_step board h on by o op (Read value) place is single none gives = refl
single_step board h on by o op Accept place is single none gives = refl
single_step board h on by o op Latch place is single none gives = refl
single_step board h on by o op (Take outcome) place is single none gives = refl
single_step board h on by o op Stall place is single none gives = refl
single_step board h on by o op MasterAbort place is single none gives = refl
single_step board h on by o op TargetAbort place is single none gives = refl

single_event : (board : Board) (h : List Event) (o : OpId) (op : Op) (e : Event) → op_of board o ≡ Some op → length (phases_of op) ≤ 1 → through h o ≡ 0 → Allowed board h e → parted_by o e ≡ 0
single_event board h o op (Act on by p step place) is single none allowed =
    let P : Bool → Type 0 = λ b. same_op p o ≡ b → cond b (phases_parted step) 0 ≡ 0 in
    (elim (same_op p o) as P [
      | true ↦ λ same.
          let one : p ≡ o = same_op_true p o same in
          let F : OpId → Type 0 = λ q. answer board h on by q ≡ Gives step place in
          single_step board h on by o op step place is single none (subst F one allowed.1)
      | false ↦ λ _. refl
    ]) refl
single_event board h o op (Arrive lane mark) is single none allowed = refl

single_run : (board : Board) (h : List Event) (o : OpId) (op : Op) → op_of board o ≡ Some op → length (phases_of op) ≤ 1 → Run board h → through h o ≡ 0
single_run board [] o op is single run = refl
single_run board (e ∷ h) o op is single run =
    let before_it = single_run board h o op is single run.1 in
    let here = single_event board h o op e is single before_it run.0 in
    omega arith

pub delayed-not_parted : (board : Board) (h : List Event) (o : OpId) (on : ℕ) (request : Request) → DelayedAreSingle board → Run board h → request_of board o on ≡ Some request → is_posted request ≡ false → through h o ≡ 0
delayed-not_parted board h o on request single run is_request delayed =
    let of_op = request_is_of board o on request is_request in
    let F : Request → Type 0 = λ r. is_posted r ≡ false in
    single_run board h o of_op.op of_op.is_op (op_single board o of_op.op single of_op.is_op (subst F of_op.is_request delayed)) run
