-- What an answer with an event tells of its step and its place.
use Rattle.std.proofs.Common.{◌≡◌, ℕ, Bool, true, false, ◌||◌, cond, nat_lt, List, length, Option, Some, None, refl, slice_get}
use Rattle.std.specs.List.{find, list_all, AllByRecursion}
use Rattle.list_facts.specs.Lists.{before}
use Rattle.list_facts.proofs.EachLemmas.{Each-find}
use Rattle.pci_command.specs.declared.request.Request.{Request}
use Rattle.pci_command.specs.declared.op_id.OpId.{OpId}
use Rattle.pci_command.specs.Command.{space_of, is_read}
use Rattle.board_model.specs.declared.agents.Target.{Target as TargetAgent}
use Rattle.board_model.specs.declared.bridge.Bridge.{Bridge}
use Rattle.board_model.specs.declared.bridge.Lane.{Lane as BridgeLane}
use Rattle.board_model.specs.declared.bridge.Place.{Place}
use Rattle.board_model.specs.declared.bridge.Place.TheVariants.{Target, Header, Lane, Nobody}
use Rattle.board_model.specs.declared.board.Board.{Board}
use Rattle.board_model.specs.Requests.{request_of, is_posted}
use Rattle.board_model.specs.Claims.{claim}
use Rattle.board_model.specs.Ways.{aborts_at, address_in, lane_back, is_lane}
use Rattle.history_model.specs.declared.event.By.{By}
use Rattle.history_model.specs.declared.event.Step.{Step}
use Rattle.history_model.specs.declared.event.Step.TheVariants.{Land, Part, Read, Accept, Latch, Take, Stall, MasterAbort, TargetAbort}
use Rattle.history_model.specs.declared.event.Event.{Event}
use Rattle.history_model.specs.declared.item.Carried.{Carried}
use Rattle.history_model.specs.declared.item.Carried.TheVariants.{Post, Ask, Done, Room, Gone}
use Rattle.history_model.specs.declared.item.Slot.{Slot}
use Rattle.history_model.specs.declared.item.Answer.{Answer}
use Rattle.history_model.specs.declared.item.Answer.TheVariants.{Gives, Retry}
use Rattle.history_model.specs.declared.item.Cause.TheVariants.{Full, NoSlot, Behind}
use Rattle.history_model.specs.Lanes.{is_done_for}
use Rattle.history_model.specs.World.{World, is_own, world_of}
use Rattle.history_model.specs.Words.{through, without, value_of}
use Rattle.history_model.specs.Answers.{stalls_used, target_step, target_answer, header_answer, completion_passes, completion_answer, delayed_answer, posted_answer, lane_answer, bridge_to, answer_by, answer_to, answer}
use Rattle.trace_text.specs.Events.{is_target, is_header, is_nobody, is_completion}
use Rattle.trace_roundtrip.specs.runs.Completions.{SaysHow}

-- so many data phases are what a target of the board takes at a time
pub record IsBurst (board : Board) (phases : ℕ) : Type 0 where
  pub place : ℕ
  pub target : TargetAgent
  pub is_there : slice_get board.targets place ≡ Some target
  pub is_burst : phases ≡ target.burst

-- the place is on the board
abbrev pub IsThere : Board → Place → Type 0
IsThere board (Target index) = (target : TargetAgent) × (slice_get board.targets index ≡ Some target)
IsThere board (Header bus) = (bridge : Bridge) × (bridge_to board bus ≡ Some bridge)
IsThere board (Lane lane) = (bridge : Bridge) × (bridge_to board lane.bus ≡ Some bridge)
IsThere board Nobody = Unit {0}

-- the step can happen at the place, and a completion that is taken says how its request ended
abbrev pub Suits : Board → Step → Place → Type 0
Suits board Land place = is_target place ≡ true
Suits board (Part phases) place = (is_target place ≡ true) × IsBurst board phases
Suits board (Read value) place = (is_target place || is_header place) ≡ true
Suits board Accept place = is_lane place ≡ true
Suits board Latch place = is_lane place ≡ true
Suits board (Take outcome) place = (is_lane place ≡ true) × (is_completion outcome ≡ true)
Suits board Stall place = is_target place ≡ true
Suits board MasterAbort place = is_nobody place ≡ true
Suits board TargetAbort place = is_target place ≡ true

-- an answer with an event has its place on the board, and its step there
abbrev pub Told : Board → Answer → Type 0
Told board (Gives step place) = IsThere board place × Suits board step place
Told board (Retry cause) = Unit {0}

-- each completion that stands on a lane says how its request ended
abbrev pub StandingSay : World → Type 0
StandingSay world = (lane : BridgeLane) → AllByRecursion SaysHow (world lane).standing

-- what holds of both of two values holds of the one that is chosen
either : {X : Type 0} (F : X → Type 0) (b : Bool) (x y : X) → F x → F y → F (cond b x y)
either F true x y first second = first
either F false x y first second = second

-- a target that claims gives a step of a target, and a part as large as its burst
step_told : (board : Board) (h : List Event) (place : ℕ) (request : Request) (target : TargetAgent) → slice_get board.targets place ≡ Some target
    → Suits board (target_step board h place request target) (Target place)
step_told board h place request target is =
    let F : Step → Type 0 = λ step. Suits board step (Target place) in
    let many : Bool = nat_lt target.burst (length request.phases) in
    let value : ℕ = value_of board h (record { target = place; space = space_of request.command; address = address_in (space_of request.command) request.address }) in
    let written : Step = cond many (Part target.burst) Land in
    let taken : Step = cond (is_read request.command) (Read value) written in
    let part : F (Part target.burst) = (refl, record { place = place; target = target; is_there = is; is_burst = refl }) in
    either F (nat_lt (stalls_used h place) target.stalls) Stall (cond (aborts_at target request) TargetAbort taken) refl
    (either F (aborts_at target request) TargetAbort taken refl
    (either F (is_read request.command) (Read value) written refl
    (either F many (Part target.burst) Land part refl)))

-- so does a place of a target, and nobody claims where no target is there
target_told : (board : Board) (h : List Event) (place : ℕ) (request : Request) (found : Option TargetAgent) → slice_get board.targets place ≡ found
    → Told board (target_answer board h place request found)
target_told board h place request None is = (tt, refl)
target_told board h place request (Some target) is = ((target, is), step_told board h place request target is)

-- the header of a bridge that is there gives a value
header_told : (board : Board) (bus : ℕ) (request : Request) (found : Option Bridge) → bridge_to board bus ≡ found → Told board (header_answer bus request found)
header_told board bus request None is = (tt, refl)
header_told board bus request (Some bridge) is = ((bridge, is), refl)

-- a completion that is given says how its request ended, as it did while it stood
completion_told : (board : Board) (read : Bool) (lane : BridgeLane) (older : List Carried) (item : Option Carried) (bridge : Bridge) → bridge_to board lane.bus ≡ Some bridge
    → ((found : Carried) → item ≡ Some found → SaysHow found) → Told board (completion_answer board read lane older item)
completion_told board read lane older None bridge is says = tt
completion_told board read lane older (Some (Post op)) bridge is says = tt
completion_told board read lane older (Some (Ask op slot)) bridge is says = tt
completion_told board read lane older (Some (Done op slot outcome)) bridge is says =
    either (Told board) (list_all (completion_passes board read) older) (Gives (Take outcome) (Lane lane)) (Retry Behind)
    ((bridge, is), (refl, says (Done op slot outcome) refl)) tt
completion_told board read lane older (Some Room) bridge is says = tt
completion_told board read lane older (Some (Gone slot)) bridge is says = tt

-- a delayed request is latched, or its completion given
delayed_told : (board : Board) (read : Bool) (depth : ℕ) (lane : BridgeLane) (held : List Slot) (coming : List Carried) (own : Option Slot) (bridge : Bridge)
    → bridge_to board lane.bus ≡ Some bridge → AllByRecursion SaysHow coming → Told board (delayed_answer board read depth lane held coming own)
delayed_told board read depth lane held coming None bridge is says =
    either (Told board) (nat_lt (length held) depth) (Gives Latch (Lane lane)) (Retry NoSlot) ((bridge, is), refl) tt
delayed_told board read depth lane held coming (Some slot) bridge is says =
    let test : Carried → Bool = is_done_for slot.number in
    completion_told board read lane (before test coming) (find test coming) bridge is (λ found some. Each-find SaysHow test coming found says some)

-- a lane answers where its bridge is there, and by a step of a lane
lane_told : (board : Board) (world : World) (on : ℕ) (by : By) (o : OpId) (request : Request) (lane : BridgeLane) (found : Option Bridge)
    → bridge_to board lane.bus ≡ found → StandingSay world → Told board (lane_answer board world on by o request lane found)
lane_told board world on by o request lane None is says = (tt, refl)
lane_told board world on by o request lane (Some bridge) is says =
    let posted : Answer = posted_answer (world lane).owed bridge.posted lane in
    let delayed : Answer = delayed_answer board (is_read request.command) bridge.delayed lane (world lane).held (world (lane_back lane)).standing (find (is_own board on by o) (world lane).held) in
    either (Told board) (is_posted request) posted delayed
    (either (Told board) (nat_lt (world lane).owed bridge.posted) (Gives Accept (Lane lane)) (Retry Full) ((bridge, is), refl) tt)
    (delayed_told board (is_read request.command) bridge.delayed lane (world lane).held (world (lane_back lane)).standing (find (is_own board on by o) (world lane).held) bridge is (says (lane_back lane)))

-- of whoever claims
place_told : (board : Board) (world : World) (h : List Event) (on : ℕ) (by : By) (o : OpId) (request : Request) (place : Place) → StandingSay world
    → Told board (answer_by board world h on by o request place)
place_told board world h on by o request (Target place) says = target_told board h place request (slice_get board.targets place) refl
place_told board world h on by o request (Header bus) says = header_told board bus request (bridge_to board bus) refl
place_told board world h on by o request (Lane lane) says = lane_told board world on by o request lane (bridge_to board lane.bus) refl says
place_told board world h on by o request Nobody says = (tt, refl)

-- of a request, if the operation is there
request_told : (board : Board) (world : World) (h : List Event) (on : ℕ) (by : By) (o : OpId) (found : Option Request) → StandingSay world
    → Told board (answer_to board world h on by o found)
request_told board world h on by o None says = (tt, refl)
request_told board world h on by o (Some request) says =
    let rest : Request = without (through h o) request in place_told board world h on by o rest (claim board on rest) says

-- an answer with an event has its place on the board, and its step there
pub answer_told : (board : Board) (h : List Event) (on : ℕ) (by : By) (o : OpId) → StandingSay (world_of board h) → Told board (answer board h on by o)
answer_told board h on by o says = request_told board (world_of board h) h on by o (request_of board o on) says
