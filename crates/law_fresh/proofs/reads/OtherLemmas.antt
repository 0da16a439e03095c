-- Only reads read at targets.
use Rattle.std.proofs.Common.{◌≡◌, ℕ, Bool, true, false, cond, nat_lt, List, [], ◌∷◌, length, Option, Some, None, refl, sym, subst, ◌∙◌, slice_get, option_map}
use Rattle.std.specs.List.{find, list_all}
use Rattle.list_facts.specs.Lists.{before}
use Rattle.pci_command.specs.declared.request.Request.{Request}
use Rattle.pci_command.specs.declared.op_id.OpId.{OpId}
use Rattle.pci_command.specs.Command.{space_of, is_read}
use Rattle.pci_command.specs.Same.{same_op}
use Rattle.board_model.specs.declared.agents.Target.{Target as TargetAgent}
use Rattle.board_model.specs.declared.bridge.Bridge.{Bridge}
use Rattle.board_model.specs.declared.bridge.Lane.{Lane as BridgeLane}
use Rattle.board_model.specs.declared.bridge.Place.{Place}
use Rattle.board_model.specs.declared.bridge.Place.TheVariants.{Target, Header, Lane, Nobody}
use Rattle.board_model.specs.declared.op.Op.{Op}
use Rattle.board_model.specs.declared.board.Board.{Board}
use Rattle.board_model.specs.Requests.{op_of, request_on, reads, reads_in, is_posted}
use Rattle.board_model.specs.Claims.{claim}
use Rattle.board_model.specs.Ways.{address_in, aborts_at, lane_back}
use Rattle.history_model.specs.declared.event.By.{By}
use Rattle.history_model.specs.declared.event.Step.{Step}
use Rattle.history_model.specs.declared.event.Step.TheVariants.{Land, Part, Read, Accept, Latch, Take, Stall, MasterAbort, TargetAbort}
use Rattle.history_model.specs.declared.event.Event.{Event}
use Rattle.history_model.specs.declared.event.Event.TheVariants.{Act, Arrive}
use Rattle.history_model.specs.declared.item.Carried.{Carried}
use Rattle.history_model.specs.declared.item.Carried.TheVariants.{Post, Ask, Done, Room, Gone}
use Rattle.history_model.specs.declared.item.Slot.{Slot}
use Rattle.history_model.specs.declared.item.Answer.{Answer}
use Rattle.history_model.specs.declared.item.Answer.TheVariants.{Gives, Retry}
use Rattle.history_model.specs.declared.item.Cause.TheVariants.{Full, NoSlot, Behind}
use Rattle.history_model.specs.Lanes.{is_done_for}
use Rattle.history_model.specs.World.{World, is_own, world_of}
use Rattle.history_model.specs.Words.{through, without, value_of}
use Rattle.history_model.specs.Knowledge.{reading_at, reading_by, reading_of, reading_or, last_reading}
use Rattle.history_model.specs.Answers.{stalls_used, target_step, target_answer, header_answer, completion_passes, completion_answer, delayed_answer, posted_answer, lane_answer, bridge_to, answer_by, answer_to, answer}
use Rattle.history_model.specs.Runs.{Run}
use Rattle.history_model.proofs.facts.RequestLemmas.{same_op_true}

-- a target gives a value to a read only
step_reads : (board : Board) (h : List Event) (place : ℕ) (request : Request) (target : TargetAgent) (value : ℕ) → target_step board h place request target ≡ Read value → is_read request.command ≡ true
step_reads board h place request target value is =
    let gives : Step = Read (value_of board h (record { target = place; space = space_of request.command; address = address_in (space_of request.command) request.address })) in
    let writes : Step = cond (nat_lt target.burst (length request.phases)) (Part target.burst) Land in
    let X : Type 0 = is_read request.command ≡ true in
    let A : Bool → Type 0 = λ b. cond b (Part target.burst) Land ≡ Read value → X in
    let a : A (nat_lt target.burst (length request.phases)) = elim (nat_lt target.burst (length request.phases)) as A [ true ↦ λ e. cc | false ↦ λ e. cc ] in
    let B : Bool → Type 0 = λ b. is_read request.command ≡ b → cond b gives writes ≡ Read value → X in
    let b : cond (is_read request.command) gives writes ≡ Read value → X = (elim (is_read request.command) as B [ true ↦ λ read _. read | false ↦ λ _. a ]) refl in
    let C : Bool → Type 0 = λ c. cond c TargetAbort (cond (is_read request.command) gives writes) ≡ Read value → X in
    let c : C (aborts_at target request) = elim (aborts_at target request) as C [ true ↦ λ e. cc | false ↦ b ] in
    let D : Bool → Type 0 = λ d. cond d Stall (cond (aborts_at target request) TargetAbort (cond (is_read request.command) gives writes)) ≡ Read value → X in
    (elim (nat_lt (stalls_used h place) target.stalls) as D [ true ↦ λ e. cc | false ↦ c ]) is

-- an answer with a value at a target
abbrev AtTarget : ℕ → ℕ → Answer → Type 0
AtTarget value target answer = answer ≡ Gives (Read value) (Target target)

-- the answer with the completion of the own slot is none
completion_none : (X : Type 0) (board : Board) (read : Bool) (lane : BridgeLane) (older : List Carried) (item : Option Carried) (value target : ℕ) → AtTarget value target (completion_answer board read lane older item) → X
completion_none X board read lane older None value target is = cc
completion_none X board read lane older (Some (Post op)) value target is = cc
completion_none X board read lane older (Some (Ask op slot)) value target is = cc
completion_none X board read lane older (Some (Done op slot outcome)) value target is =
    let P : Bool → Type 0 = λ b. AtTarget value target (cond b (Gives (Take outcome) (Lane lane)) (Retry Behind)) → X in
    (elim (list_all (completion_passes board read) older) as P [ true ↦ λ e. cc | false ↦ λ e. cc ]) is
completion_none X board read lane older (Some Room) value target is = cc
completion_none X board read lane older (Some (Gone slot)) value target is = cc

-- nor that of a delayed request
delayed_none : (X : Type 0) (board : Board) (read : Bool) (depth : ℕ) (lane : BridgeLane) (held : List Slot) (coming : List Carried) (own : Option Slot) (value target : ℕ) → AtTarget value target (delayed_answer board read depth lane held coming own) → X
delayed_none X board read depth lane held coming None value target is =
    let P : Bool → Type 0 = λ b. AtTarget value target (cond b (Gives Latch (Lane lane)) (Retry NoSlot)) → X in
    (elim (nat_lt (length held) depth) as P [ true ↦ λ e. cc | false ↦ λ e. cc ]) is
delayed_none X board read depth lane held coming (Some slot) value target is = completion_none X board read lane (before (is_done_for slot.number) coming) (find (is_done_for slot.number) coming) value target is

-- nor that of a posted write
posted_none : (X : Type 0) (owed depth : ℕ) (lane : BridgeLane) (value target : ℕ) → AtTarget value target (posted_answer owed depth lane) → X
posted_none X owed depth lane value target is =
    let P : Bool → Type 0 = λ b. AtTarget value target (cond b (Gives Accept (Lane lane)) (Retry Full)) → X in
    (elim (nat_lt owed depth) as P [ true ↦ λ e. cc | false ↦ λ e. cc ]) is

-- nor that of any request
lane_none : (X : Type 0) (board : Board) (world : World) (on : ℕ) (by : By) (o : OpId) (request : Request) (lane : BridgeLane) (found : Option Bridge) (value target : ℕ) → AtTarget value target (lane_answer board world on by o request lane found) → X
lane_none X board world on by o request lane None value target is = cc
lane_none X board world on by o request lane (Some bridge) value target is =
    let own : Option Slot = find (is_own board on by o) (world lane).held in
    let posted : Answer = posted_answer (world lane).owed bridge.posted lane in
    let delayed : Answer = delayed_answer board (is_read request.command) bridge.delayed lane (world lane).held (world (lane_back lane)).standing own in
    let P : Bool → Type 0 = λ b. AtTarget value target (cond b posted delayed) → X in
    (elim (is_posted request) as P [
      | true ↦ λ e. posted_none X (world lane).owed bridge.posted lane value target e
      | false ↦ λ e. delayed_none X board (is_read request.command) bridge.delayed lane (world lane).held (world (lane_back lane)).standing own value target e
    ]) is

-- whoever claims a request, it gets a value at a target only where it reads
place_reads : (board : Board) (h : List Event) (on : ℕ) (by : By) (o : OpId) (request : Request) (claimant : Place) (value target : ℕ) → AtTarget value target (answer_by board (world_of board h) h on by o request claimant) → is_read request.command ≡ true
place_reads board h on by o request (Target place) value target is =
    let P : Option TargetAgent → Type 0 = λ found. AtTarget value target (target_answer board h place request found) → is_read request.command ≡ true in
    (elim (slice_get board.targets place) as P [
      | None ↦ λ e. cc
      | Some agent ↦ λ e. let step : target_step board h place request agent ≡ Read value = cc in step_reads board h place request agent value step
    ]) is
place_reads board h on by o request (Header bus) value target is =
    let P : Option Bridge → Type 0 = λ found. AtTarget value target (header_answer bus request found) → is_read request.command ≡ true in
    (elim (bridge_to board bus) as P [ None ↦ λ e. cc | Some bridge ↦ λ e. cc ]) is
place_reads board h on by o request (Lane lane) value target is = lane_none (is_read request.command ≡ true) board (world_of board h) on by o request lane (bridge_to board lane.bus) value target is
place_reads board h on by o request Nobody value target is = cc

-- an operation that is no read reads at no target
read_none : (board : Board) (h : List Event) (on : ℕ) (by : By) (o : OpId) (found : Option Op) (value target : ℕ) → reads_in found ≡ false
    → AtTarget value target (answer_to board (world_of board h) h on by o (option_map (λ op. request_on op on) found)) → reading_of target value h (option_map (λ op. request_on op on) found) ≡ None
read_none board h on by o None value target other is = refl
read_none board h on by o (Some op) value target other is =
    let rest : Request = without (through h o) (request_on op on) in
    let read : is_read rest.command ≡ true = place_reads board h on by o rest (claim board on rest) value target is in
    let e : true ≡ false = sym read ∙ other in
    cc

-- at whatever place it is answered with a value
at_none : (board : Board) (h : List Event) (on : ℕ) (by : By) (o : OpId) (value : ℕ) (place : Place) → reads board o ≡ false → answer board h on by o ≡ Gives (Read value) place → reading_at board h on o value place ≡ None
at_none board h on by o value (Target target) other is = read_none board h on by o (op_of board o) value target other is
at_none board h on by o value (Header bus) other is = refl
at_none board h on by o value (Lane lane) other is = refl
at_none board h on by o value Nobody other is = refl

-- with whatever step it is answered
by_none : (board : Board) (h : List Event) (on : ℕ) (by : By) (o : OpId) (step : Step) (place : Place) → reads board o ≡ false → answer board h on by o ≡ Gives step place → reading_by board h on o step place ≡ None
by_none board h on by o Land place other is = refl
by_none board h on by o (Part phases) place other is = refl
by_none board h on by o (Read value) place other is = at_none board h on by o value place other is
by_none board h on by o Accept place other is = refl
by_none board h on by o Latch place other is = refl
by_none board h on by o (Take outcome) place other is = refl
by_none board h on by o Stall place other is = refl
by_none board h on by o MasterAbort place other is = refl
by_none board h on by o TargetAbort place other is = refl

-- so it reads at no target in any run
pub no_reading : (board : Board) (o : OpId) (h : List Event) → reads board o ≡ false → Run board h → last_reading board o h ≡ None
no_reading board o [] other run = refl
no_reading board o (Act on by p step place ∷ h) other run =
    let older = no_reading board o h other run.1 in
    let P : Bool → Type 0 = λ b. same_op p o ≡ b → reading_or (cond b (reading_by board h on p step place) None) (last_reading board o h) ≡ None in
    (elim (same_op p o) as P [
      | true ↦ λ same.
          let one : p ≡ o = same_op_true p o same in
          let gives : answer board h on by o ≡ Gives step place = subst (λ q. answer board h on by q ≡ Gives step place) one run.0.1 in
          let here : reading_by board h on o step place ≡ None = by_none board h on by o step place other gives in
          let F : OpId → Type 0 = λ q. reading_or (reading_by board h on q step place) (last_reading board o h) ≡ None in
          let there : F o = rw here older in
          subst F (sym one) there
      | false ↦ λ _. older
    ]) refl
no_reading board o (Arrive lane mark ∷ h) other run = no_reading board o h other run.1
