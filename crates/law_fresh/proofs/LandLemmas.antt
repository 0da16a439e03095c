-- What lands is a write, whichever bridges there are.
use Rattle.std.proofs.Common.{◌≡◌, ℕ, ◌+◌, Bool, true, false, ◌&&◌, ◌||◌, ◌==◌, cond, nat_lt, List, [], ◌∷◌, length, Option, Some, None, refl, sym, ap, subst, ◌∙◌, slice_get}
use Rattle.std.specs.List.{find, list_all}
use Rattle.list_facts.specs.Lists.{before}
use Rattle.pci_command.specs.declared.request.Request.{Request}
use Rattle.pci_command.specs.declared.op_id.OpId.{OpId}
use Rattle.pci_command.specs.Command.{is_read, space_of}
use Rattle.pci_command.specs.Same.{same_op}
use Rattle.board_model.specs.declared.agents.Target.{Target as TargetAgent}
use Rattle.board_model.specs.declared.bridge.Bridge.{Bridge}
use Rattle.board_model.specs.declared.bridge.Lane.{Lane as BridgeLane}
use Rattle.board_model.specs.declared.bridge.Place.{Place}
use Rattle.board_model.specs.declared.bridge.Place.TheVariants.{Target, Header, Lane, Nobody}
use Rattle.board_model.specs.declared.board.Board.{Board}
use Rattle.board_model.specs.declared.op.Op.{Op}
use Rattle.board_model.specs.Requests.{request_of, reads, reads_in, is_posted}
use Rattle.board_model.specs.Claims.{claim}
use Rattle.board_model.specs.Ways.{address_in, aborts_at, lane_back}
use Rattle.history_model.specs.declared.event.By.{By}
use Rattle.history_model.specs.declared.event.Step.{Step}
use Rattle.history_model.specs.declared.event.Step.TheVariants.{Land, Part, Read, Accept, Latch, Take, Stall, MasterAbort, TargetAbort}
use Rattle.history_model.specs.declared.event.Event.{Event}
use Rattle.history_model.specs.declared.event.Event.TheVariants.{Act, Arrive}
use Rattle.history_model.specs.declared.item.Carried.{Carried}
use Rattle.history_model.specs.declared.item.Carried.TheVariants.{Post, Ask, Done, Room, Gone}
use Rattle.history_model.specs.declared.item.Slot.{Slot}
use Rattle.history_model.specs.declared.item.Answer.{Answer}
use Rattle.history_model.specs.declared.item.Answer.TheVariants.{Gives, Retry}
use Rattle.history_model.specs.declared.item.Cause.TheVariants.{Full, NoSlot, Behind}
use Rattle.history_model.specs.declared.rule.Rule.{Rule}
use Rattle.history_model.specs.Lanes.{is_done_for}
use Rattle.history_model.specs.World.{World, is_own, noted, world_by}
use Rattle.history_model.specs.Words.{through, without, value_of}
use Rattle.history_model.specs.Answers.{completion_passes, stalls_used, target_step, target_answer, header_answer, completion_answer, delayed_answer, posted_answer, lane_answer, bridge_to, answer_by, answer_to, answer_in}
use Rattle.history_model.specs.Knowledge.{is_land_step, is_land_of, has_landed}
use Rattle.history_model.specs.Runs.{AllowedBy, RunBy}
use Rattle.std.proofs.lemmas.Bool.{and_parts}
use Rattle.history_model.proofs.facts.RequestLemmas.{same_op_true, request_is_of}
use Rattle.law_fresh.proofs.ListLemmas.{or_either}

completion_lands_not : (board : Board) (read : Bool) (lane : BridgeLane) (older : List Carried) (item : Option Carried) (place : Place) → completion_answer board read lane older item ≡ Gives Land place → ⊥
completion_lands_not board read lane older None place gives = cc
completion_lands_not board read lane older (Some (Post op)) place gives = cc
completion_lands_not board read lane older (Some (Ask op slot)) place gives = cc
completion_lands_not board read lane older (Some (Done op slot outcome)) place gives =
    let P : Bool → Type 0 = λ b. cond b (Gives (Take outcome) (Lane lane)) (Retry Behind) ≡ Gives Land place → ⊥ in
    (elim (list_all (completion_passes board read) older) as P [ true ↦ λ f. cc | false ↦ λ f. cc ]) gives
completion_lands_not board read lane older (Some Room) place gives = cc
completion_lands_not board read lane older (Some (Gone slot)) place gives = cc

delayed_lands_not : (board : Board) (read : Bool) (depth : ℕ) (lane : BridgeLane) (held : List Slot) (coming : List Carried) (own : Option Slot) (place : Place) → delayed_answer board read depth lane held coming own ≡ Gives Land place → ⊥
delayed_lands_not board read depth lane held coming None place gives =
    let P : Bool → Type 0 = λ b. cond b (Gives Latch (Lane lane)) (Retry NoSlot) ≡ Gives Land place → ⊥ in
    (elim (nat_lt (length held) depth) as P [ true ↦ λ f. cc | false ↦ λ f. cc ]) gives
delayed_lands_not board read depth lane held coming (Some slot) place gives =
    completion_lands_not board read lane (before (is_done_for slot.number) coming) (find (is_done_for slot.number) coming) place gives

lane_lands_not : (board : Board) (world : World) (on : ℕ) (by : By) (o : OpId) (request : Request) (lane : BridgeLane) (found : Option Bridge) (place : Place) → lane_answer board world on by o request lane found ≡ Gives Land place → ⊥
lane_lands_not board world on by o request lane None place gives = cc
lane_lands_not board world on by o request lane (Some bridge) place gives =
    let other : Answer = delayed_answer board (is_read request.command) bridge.delayed lane (world lane).held (world (lane_back lane)).standing (find (is_own board on by o) (world lane).held) in
    let P : Bool → Type 0 = λ b. cond b (posted_answer (world lane).owed bridge.posted lane) other ≡ Gives Land place → ⊥ in
    let Q : Bool → Type 0 = λ b. cond b (Gives Accept (Lane lane)) (Retry Full) ≡ Gives Land place → ⊥ in
    (elim (is_posted request) as P [
      | true ↦ λ f. (elim (nat_lt (world lane).owed bridge.posted) as Q [ true ↦ λ g. cc | false ↦ λ g. cc ]) f
      | false ↦ λ f. delayed_lands_not board (is_read request.command) bridge.delayed lane (world lane).held (world (lane_back lane)).standing (find (is_own board on by o) (world lane).held) place f
    ]) gives

step_writes : (board : Board) (h : List Event) (target : ℕ) (request : Request) (agent : TargetAgent) → target_step board h target request agent ≡ Land → is_read request.command ≡ false
step_writes board h target request agent is =
    let A : Bool → Type 0 = λ b. cond b Stall (cond (aborts_at agent request) TargetAbort (cond (is_read request.command) (read_it board h target request) (cond (nat_lt agent.burst (length request.phases)) (Part agent.burst) Land))) ≡ Land → is_read request.command ≡ false in
    let B : Bool → Type 0 = λ b. cond b TargetAbort (cond (is_read request.command) (read_it board h target request) (cond (nat_lt agent.burst (length request.phases)) (Part agent.burst) Land)) ≡ Land → is_read request.command ≡ false in
    let C : Bool → Type 0 = λ b. is_read request.command ≡ b → cond b (read_it board h target request) (cond (nat_lt agent.burst (length request.phases)) (Part agent.burst) Land) ≡ Land → is_read request.command ≡ false in
    (elim (nat_lt (stalls_used h target) agent.stalls) as A [
      | true ↦ λ f. cc
      | false ↦ elim (aborts_at agent request) as B [
        | true ↦ λ f. cc
        | false ↦ λ f. (elim (is_read request.command) as C [ true ↦ λ _ g. cc | false ↦ λ other _. other ]) refl f
      ]
    ]) is
  where
    read_it : Board → List Event → ℕ → Request → Step
    read_it board h target request =
        Read (value_of board h (record { target = target; space = space_of request.command; address = address_in (space_of request.command) request.address }))

place_writes : (board : Board) (world : World) (h : List Event) (on : ℕ) (by : By) (o : OpId) (request : Request) (claimed place : Place) → answer_by board world h on by o request claimed ≡ Gives Land place → is_read request.command ≡ false
place_writes board world h on by o request (Target target) place gives =
    let P : Option TargetAgent → Type 0 = λ found. target_answer board h target request found ≡ Gives Land place → is_read request.command ≡ false in
    (elim (slice_get board.targets target) as P [
      | None ↦ λ f. cc
      | Some agent ↦ λ f. let step : target_step board h target request agent ≡ Land = cc in step_writes board h target request agent step
    ]) gives
place_writes board world h on by o request (Header bus) place gives =
    let P : Option Bridge → Type 0 = λ found. header_answer bus request found ≡ Gives Land place → is_read request.command ≡ false in
    (elim (bridge_to board bus) as P [ None ↦ λ f. cc | Some bridge ↦ λ f. cc ]) gives
place_writes board world h on by o request (Lane lane) place gives = absurd (lane_lands_not board world on by o request lane (bridge_to board lane.bus) place gives)
place_writes board world h on by o request Nobody place gives = cc

answer_writes : (board : Board) (world : World) (h : List Event) (on : ℕ) (by : By) (o : OpId) (place : Place) → answer_in board world h on by o ≡ Gives Land place → reads board o ≡ false
answer_writes board world h on by o place gives =
    let P : Option Request → Type 0 = λ found. request_of board o on ≡ found → answer_to board world h on by o found ≡ Gives Land place → reads board o ≡ false in
    (elim (request_of board o on) as P [
      | None ↦ λ _ f. cc
      | Some request ↦ λ is f.
          let of_op = request_is_of board o on request is in
          let rest : Request = without (through h o) request in
          let other : is_read request.command ≡ false = place_writes board world h on by o rest (claim board on rest) place f in
          let command : is_read request.command ≡ reads board o = ap (λ (r : Request). is_read r.command) of_op.is_request ∙ sym (ap reads_of of_op.is_op) in
          sym command ∙ other
    ]) refl gives
  where
    reads_of : Option Op → Bool
    reads_of found = reads_in found

step_lands : (board : Board) (world : World) (h : List Event) (on : ℕ) (by : By) (o : OpId) (step : Step) (place : Place) → answer_in board world h on by o ≡ Gives step place → is_land_step step ≡ true → reads board o ≡ false
step_lands board world h on by o Land place gives is = answer_writes board world h on by o place gives
step_lands board world h on by o (Part phases) place gives is = cc
step_lands board world h on by o (Read value) place gives is = cc
step_lands board world h on by o Accept place gives is = cc
step_lands board world h on by o Latch place gives is = cc
step_lands board world h on by o (Take outcome) place gives is = cc
step_lands board world h on by o Stall place gives is = cc
step_lands board world h on by o MasterAbort place gives is = cc
step_lands board world h on by o TargetAbort place gives is = cc

-- what an event lands
event_writes : (rule : Rule) (board : Board) (h : List Event) (e : Event) (p : OpId) → AllowedBy rule board h e → is_land_of p e ≡ true → reads board p ≡ false
event_writes rule board h (Act on by o step place) p allowed is =
    let parts = and_parts (same_op o p) (is_land_step step) is in
    subst (λ q. reads board q ≡ false) (same_op_true o p parts.0) (step_lands board (world_by rule board h) h on (noted rule by) o step place allowed.1 parts.1)
event_writes rule board h (Arrive lane mark) p allowed is = cc

-- what has landed
pub landed_writes : (rule : Rule) (board : Board) (h : List Event) (p : OpId) → RunBy rule board h → has_landed h p ≡ true → reads board p ≡ false
landed_writes rule board [] p run is = cc
landed_writes rule board (e ∷ h) p run is =
    or_either (reads board p ≡ false) (is_land_of p e) (has_landed h p)
    (λ here. event_writes rule board h e p run.0 here)
    (λ older. landed_writes rule board h p run.1 older) is
