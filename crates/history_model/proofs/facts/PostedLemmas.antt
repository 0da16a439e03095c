-- How a write in memory is answered, and where.
use Rattle.std.proofs.Common.{◌≡◌, ℕ, Bool, true, false, ◌&&◌, ◌==◌, cond, nat_lt, List, length, Option, Some, None, refl, sym, subst, slice_get}
use Rattle.std.specs.List.{find, list_any, position_from}
use Rattle.pci_command.specs.declared.command.Command.{Command}
use Rattle.pci_command.specs.declared.command.Command.TheVariants.{IoRead, IoWrite, MemRead, MemWrite, CfgRead, CfgWrite, MemReadMultiple, MemReadLine, MemWriteInvalidate}
use Rattle.pci_command.specs.declared.command.Space.{Space}
use Rattle.pci_command.specs.declared.command.Space.TheVariants.{Mem}
use Rattle.pci_command.specs.declared.request.Request.{Request}
use Rattle.pci_command.specs.declared.op_id.OpId.{OpId}
use Rattle.pci_command.specs.Command.{is_read, space_of}
use Rattle.pci_command.specs.Same.{same_command}
use Rattle.board_model.specs.declared.agents.Target.{Target as TargetAgent}
use Rattle.board_model.specs.declared.bridge.Bridge.{Bridge}
use Rattle.board_model.specs.declared.bridge.Lane.{Lane as BridgeLane}
use Rattle.board_model.specs.declared.bridge.Place.{Place}
use Rattle.board_model.specs.declared.bridge.Place.TheVariants.{Target, Header, Lane, Nobody}
use Rattle.board_model.specs.declared.board.Board.{Board}
use Rattle.board_model.specs.Requests.{request_of, is_posted}
use Rattle.board_model.specs.Claims.{range_holds, bridge_holds, decodes_down, claim_upwards, claim_by_bridge, claim_by_address, claim_in_space, claim}
use Rattle.board_model.specs.Ways.{aborts_at, address_in, lane_back}
use Rattle.history_model.specs.declared.event.By.{By}
use Rattle.history_model.specs.declared.event.Step.{Step}
use Rattle.history_model.specs.declared.event.Step.TheVariants.{Land, Part, Read, Accept, Latch, Take, Stall, MasterAbort, TargetAbort}
use Rattle.history_model.specs.declared.event.Event.{Event}
use Rattle.history_model.specs.declared.item.Answer.{Answer}
use Rattle.history_model.specs.declared.item.Answer.TheVariants.{Gives, Retry}
use Rattle.history_model.specs.declared.item.Cause.TheVariants.{Full}
use Rattle.history_model.specs.World.{World, is_own, world_of}
use Rattle.history_model.specs.Words.{through, without, value_of}
use Rattle.history_model.specs.Answers.{stalls_used, target_step, target_answer, delayed_answer, posted_answer, lane_answer, bridge_to, answer_by, answer_to, answer}

abbrev pub IsTarget : Place → Type 0
IsTarget (Target target) = Unit {0}
IsTarget (Header bus) = ⊥
IsTarget (Lane lane) = ⊥
IsTarget Nobody = ⊥

abbrev pub IsLane : Place → Type 0
IsLane (Target target) = ⊥
IsLane (Header bus) = ⊥
IsLane (Lane lane) = Unit {0}
IsLane Nobody = ⊥

-- the answers to a write in memory
abbrev pub PostedAt : Step → Place → Type 0
PostedAt Land place = IsTarget place
PostedAt (Part phases) place = IsTarget place
PostedAt (Read value) place = ⊥
PostedAt Accept place = IsLane place
PostedAt Latch place = ⊥
PostedAt (Take outcome) place = ⊥
PostedAt Stall place = IsTarget place
PostedAt MasterAbort place = Unit {0}
PostedAt TargetAbort place = IsTarget place

pub write_not_read : (command : Command) → same_command command MemWrite ≡ true → (is_read command ≡ false) × (space_of command ≡ Mem)
write_not_read IoRead same = cc
write_not_read IoWrite same = cc
write_not_read MemRead same = cc
write_not_read MemWrite same = (refl, refl)
write_not_read CfgRead same = cc
write_not_read CfgWrite same = cc
write_not_read MemReadMultiple same = cc
write_not_read MemReadLine same = cc
write_not_read MemWriteInvalidate same = cc

-- no header is claimed by an address
by_bridge_no_header : (board : Board) (bus : ℕ) (space : Space) (address : ℕ) (found : Option Bridge) (number : ℕ) → claim_by_bridge board bus space address found ≡ Header number → ⊥
by_bridge_no_header board bus space address (Some child) number is = cc
by_bridge_no_header board bus space address None number is =
    let P : Option Bridge → Type 0 = λ own. claim_upwards bus space address own ≡ Header number → ⊥ in
    (elim (bridge_to board bus) as P [
      | None ↦ λ e. cc
      | Some own ↦
          let Q : Bool → Type 0 = λ b. cond b Nobody (Lane (record { bus = bus; up = true })) ≡ Header number → ⊥ in
          elim (bridge_holds space address own) as Q [ true ↦ λ e. cc | false ↦ λ e. cc ]
    ]) is

by_address_no_header : (board : Board) (bus : ℕ) (space : Space) (address : ℕ) (target : Option ℕ) (number : ℕ) → claim_by_address board bus space address target ≡ Header number → ⊥
by_address_no_header board bus space address (Some target) number is = cc
by_address_no_header board bus space address None number is = by_bridge_no_header board bus space address (find (decodes_down bus space address) board.bridges) number is

pub memory_no_header : (board : Board) (bus : ℕ) (request : Request) (number : ℕ) → space_of request.command ≡ Mem → claim board bus request ≡ Header number → ⊥
memory_no_header board bus request number is_memory is =
    let F : Space → Type 0 = λ space. claim_in_space board bus space request.address ≡ Header number in
    let address : ℕ = request.address in
    by_address_no_header board bus Mem address (position_from (λ (target : TargetAgent). target.bus == bus && list_any (range_holds Mem address) target.ranges) 0 board.targets) number (subst F is_memory is)

-- a target's step
target_posted : (board : Board) (h : List Event) (place : ℕ) (request : Request) (target : TargetAgent) → is_read request.command ≡ false → PostedAt (target_step board h place request target) (Target place)
target_posted board h place request target writes =
    let P : Step → Type 0 = λ step. PostedAt step (Target place) in
    let reads : Step = Read (value_of board h (record { target = place; space = space_of request.command; address = address_in (space_of request.command) request.address })) in
    let A : Bool → Type 0 = λ b. P (cond b (Part target.burst) Land) in
    let a : A (nat_lt target.burst (length request.phases)) = elim (nat_lt target.burst (length request.phases)) as A [ true ↦ tt | false ↦ tt ] in
    let B : Bool → Type 0 = λ b. P (cond b reads (cond (nat_lt target.burst (length request.phases)) (Part target.burst) Land)) in
    let b : B (is_read request.command) = subst B (sym writes) a in
    let C : Bool → Type 0 = λ c. P (cond c TargetAbort (cond (is_read request.command) reads (cond (nat_lt target.burst (length request.phases)) (Part target.burst) Land))) in
    let c : C (aborts_at target request) = elim (aborts_at target request) as C [ true ↦ tt | false ↦ b ] in
    let D : Bool → Type 0 = λ d. P (cond d Stall (cond (aborts_at target request) TargetAbort (cond (is_read request.command) reads (cond (nat_lt target.burst (length request.phases)) (Part target.burst) Land)))) in
    elim (nat_lt (stalls_used h place) target.stalls) as D [ true ↦ tt | false ↦ c ]

-- what is given is the step at the place
gives_posted : (step given : Step) (place at : Place) → Gives step place ≡ Gives given at → PostedAt step place → PostedAt given at
gives_posted step given place at same posted =
    let steps : step ≡ given = cc in
    let places : place ≡ at = cc in
    subst (λ p. PostedAt given p) places (subst (λ s. PostedAt s place) steps posted)

target_answers : (board : Board) (h : List Event) (place : ℕ) (request : Request) (found : Option TargetAgent) (step : Step) (at : Place) → is_read request.command ≡ false
    → target_answer board h place request found ≡ Gives step at → PostedAt step at
target_answers board h place request None step at writes gives = gives_posted MasterAbort step Nobody at gives tt
target_answers board h place request (Some target) step at writes gives =
    gives_posted (target_step board h place request target) step (Target place) at gives (target_posted board h place request target writes)

lane_answers : (board : Board) (world : World) (on : ℕ) (by : By) (o : OpId) (request : Request) (lane : BridgeLane) (found : Option Bridge) (step : Step) (at : Place) → is_posted request ≡ true
    → lane_answer board world on by o request lane found ≡ Gives step at → PostedAt step at
lane_answers board world on by o request lane None step at posted gives = gives_posted MasterAbort step Nobody at gives tt
lane_answers board world on by o request lane (Some bridge) step at posted gives =
    let other : Answer = delayed_answer board (is_read request.command) bridge.delayed lane (world lane).held (world (lane_back lane)).standing (find (is_own board on by o) (world lane).held) in
    let one : Answer = posted_answer (world lane).owed bridge.posted lane in
    let F : Bool → Type 0 = λ b. cond b one other ≡ Gives step at in
    let P : Bool → Type 0 = λ b. cond b (Gives Accept (Lane lane)) (Retry Full) ≡ Gives step at → PostedAt step at in
    (elim (nat_lt (world lane).owed bridge.posted) as P [
      | true ↦ λ e. gives_posted Accept step (Lane lane) at e tt
      | false ↦ λ e. cc
    ]) (subst F posted gives)

by_place : (board : Board) (h : List Event) (on : ℕ) (by : By) (o : OpId) (request : Request) (place : Place) (step : Step) (at : Place) → is_posted request ≡ true
    → claim board on request ≡ place → answer_by board (world_of board h) h on by o request place ≡ Gives step at → PostedAt step at
by_place board h on by o request (Target target) step at posted claims gives =
    target_answers board h target request (slice_get board.targets target) step at (write_not_read request.command posted).0 gives
by_place board h on by o request (Header bus) step at posted claims gives =
    absurd (memory_no_header board on request bus (write_not_read request.command posted).1 claims)
by_place board h on by o request (Lane lane) step at posted claims gives =
    lane_answers board (world_of board h) on by o request lane (bridge_to board lane.bus) step at posted gives
by_place board h on by o request Nobody step at posted claims gives = gives_posted MasterAbort step Nobody at gives tt

pub posted_answered : (board : Board) (h : List Event) (on : ℕ) (by : By) (o : OpId) (request : Request) (step : Step) (at : Place) → request_of board o on ≡ Some request → is_posted request ≡ true
    → answer board h on by o ≡ Gives step at → PostedAt step at
posted_answered board h on by o request step at is_request posted gives =
    let F : Option Request → Type 0 = λ some. answer_to board (world_of board h) h on by o some ≡ Gives step at in
    let rest : Request = without (through h o) request in
    by_place board h on by o rest (claim board on rest) step at posted refl (subst F is_request gives)
