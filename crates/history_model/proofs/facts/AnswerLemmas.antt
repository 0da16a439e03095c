-- What it takes that a lane of a bridge answers with an event.
use Rattle.std.proofs.Common.{◌≡◌, ℕ, ◌<◌, Bool, true, false, cond, nat_lt, List, length, Option, Some, None, refl, sym, subst, arith, slice_get}
use Rattle.std.specs.List.{find, list_all}
use Rattle.std.proofs.lemmas.Bool.Decides.{nat_tests}
use Rattle.list_facts.specs.Lists.{before}
use Rattle.pci_command.specs.declared.request.Request.{Request}
use Rattle.pci_command.specs.declared.op_id.OpId.{OpId}
use Rattle.pci_command.specs.declared.op_id.Outcome.{Outcome}
use Rattle.pci_command.specs.Command.{is_read}
use Rattle.board_model.specs.declared.agents.Target.{Target as TargetAgent}
use Rattle.board_model.specs.declared.bridge.Bridge.{Bridge}
use Rattle.board_model.specs.declared.bridge.Lane.{Lane as BridgeLane}
use Rattle.board_model.specs.declared.bridge.Place.{Place}
use Rattle.board_model.specs.declared.bridge.Place.TheVariants.{Target, Header, Lane, Nobody}
use Rattle.board_model.specs.declared.board.Board.{Board}
use Rattle.board_model.specs.Requests.{request_of, is_posted}
use Rattle.board_model.specs.Claims.{claim}
use Rattle.history_model.specs.declared.event.By.{By}
use Rattle.history_model.specs.declared.event.Step.{Step}
use Rattle.history_model.specs.declared.event.Step.TheVariants.{Land, Part, Read, Accept, Latch, Take, Stall, MasterAbort, TargetAbort}
use Rattle.history_model.specs.declared.event.Event.{Event}
use Rattle.history_model.specs.declared.item.Carried.{Carried}
use Rattle.history_model.specs.declared.item.Carried.TheVariants.{Post, Ask, Done, Room, Gone}
use Rattle.history_model.specs.declared.item.Slot.{Slot}
use Rattle.history_model.specs.declared.item.Answer.{Answer}
use Rattle.history_model.specs.declared.item.Answer.TheVariants.{Gives, Retry}
use Rattle.history_model.specs.declared.item.Cause.TheVariants.{Full, NoSlot, Behind}
use Rattle.history_model.specs.Lanes.{is_done_for}
use Rattle.history_model.specs.World.{World, is_own, world_of}
use Rattle.board_model.specs.Ways.{lane_back}
use Rattle.history_model.specs.Words.{through, without}
use Rattle.history_model.specs.Answers.{target_answer, header_answer, completion_passes, completion_answer, delayed_answer, posted_answer, lane_answer, bridge_to, answer_by, answer_to, answer_in, answer}

-- a completion is taken: its slot is the own one, it stands, and may pass all that stands before it
pub record Taken (board : Board) (read : Bool) (own : Option Slot) (coming : List Carried) (outcome : Outcome) : Type 0 where
  pub slot : Slot
  pub is_own_slot : own ≡ Some slot
  pub op : OpId
  pub number : ℕ
  pub stands : find (is_done_for slot.number) coming ≡ Some (Done op number outcome)
  pub passes : list_all (completion_passes board read) (before (is_done_for slot.number) coming) ≡ true

-- the one cause of each step at a lane
abbrev pub Gives_at : Board → Bridge → ℕ → List Slot → List Carried → Request → Option Slot → Step → Type 0
Gives_at board bridge owed held coming request own Land = ⊥
Gives_at board bridge owed held coming request own (Part phases) = ⊥
Gives_at board bridge owed held coming request own (Read value) = ⊥
Gives_at board bridge owed held coming request own Accept = (is_posted request ≡ true) × (owed < bridge.posted)
Gives_at board bridge owed held coming request own Latch = (is_posted request ≡ false) × (own ≡ None) × (length held < bridge.delayed)
Gives_at board bridge owed held coming request own (Take outcome) = (is_posted request ≡ false) × Taken board (is_read request.command) own coming outcome
Gives_at board bridge owed held coming request own Stall = ⊥
Gives_at board bridge owed held coming request own MasterAbort = ⊥
Gives_at board bridge owed held coming request own TargetAbort = ⊥

-- a lane answers with an event: it claims what is left of the request, its bridge is there, and the step has its cause
pub record AtLaneIn (board : Board) (world : World) (h : List Event) (on : ℕ) (by : By) (o : OpId) (step : Step) (lane : BridgeLane) : Type 0 where
  pub request : Request
  pub is_request : request_of board o on ≡ Some request
  pub claims : claim board on (without (through h o) request) ≡ Lane lane
  pub bridge : Bridge
  pub is_bridge : bridge_to board lane.bus ≡ Some bridge
  pub gives : Gives_at board bridge (world lane).owed (world lane).held (world (lane_back lane)).standing request
      (find (is_own board on by o) (world lane).held) step

-- the step is from the lane that claims
posted_gives : (board : Board) (bridge : Bridge) (owed : ℕ) (held : List Slot) (coming : List Carried) (request : Request) (own : Option Slot) (at lane : BridgeLane) (step : Step)
    → is_posted request ≡ true → posted_answer owed bridge.posted at ≡ Gives step (Lane lane) → (at ≡ lane) × Gives_at board bridge owed held coming request own step
posted_gives board bridge owed held coming request own at lane step posted gives =
    let F : Step → Type 0 = Gives_at board bridge owed held coming request own in
    let P : Bool → Type 0 = λ b. nat_lt owed bridge.posted ≡ b → cond b (Gives Accept (Lane at)) (Retry Full) ≡ Gives step (Lane lane) → (at ≡ lane) × F step in
    (elim (nat_lt owed bridge.posted) as P [
      | true ↦ λ below e. let same : Accept ≡ step = cc in (cc, subst F same (posted, grind (arith, nat_tests)))
      | false ↦ λ above e. cc
    ]) refl gives

-- what is found among the completions, and the answer by it
completion_gives : (board : Board) (read : Bool) (at lane : BridgeLane) (coming : List Carried) (own : Option Slot) (slot : Slot) (step : Step) (item : Option Carried)
    → own ≡ Some slot → find (is_done_for slot.number) coming ≡ item
    → completion_answer board read at (before (is_done_for slot.number) coming) item ≡ Gives step (Lane lane)
    → (at ≡ lane) × ((outcome : Outcome) × (step ≡ Take outcome) × Taken board read own coming outcome)
completion_gives board read at lane coming own slot step None is_own_slot stands gives = cc
completion_gives board read at lane coming own slot step (Some (Post op)) is_own_slot stands gives = cc
completion_gives board read at lane coming own slot step (Some (Ask op number)) is_own_slot stands gives = cc
completion_gives board read at lane coming own slot step (Some (Done op number outcome)) is_own_slot stands gives =
    let passes : Bool = list_all (completion_passes board read) (before (is_done_for slot.number) coming) in
    let Result : Type 0 = (at ≡ lane) × ((outcome : Outcome) × (step ≡ Take outcome) × Taken board read own coming outcome) in
    let P : Bool → Type 0 = λ b. passes ≡ b → cond b (Gives (Take outcome) (Lane at)) (Retry Behind) ≡ Gives step (Lane lane) → Result in
    (elim passes as P [
      | true ↦ λ all e.
          let same : step ≡ Take outcome = cc in
          (cc, (outcome, same, record { slot = slot; is_own_slot = is_own_slot; op = op; number = number; stands = stands; passes = all }))
      | false ↦ λ _ e. cc
    ]) refl gives
completion_gives board read at lane coming own slot step (Some Room) is_own_slot stands gives = cc
completion_gives board read at lane coming own slot step (Some (Gone number)) is_own_slot stands gives = cc

delayed_gives : (board : Board) (bridge : Bridge) (owed : ℕ) (held : List Slot) (coming : List Carried) (request : Request) (own : Option Slot) (at lane : BridgeLane) (step : Step) (some : Option Slot)
    → is_posted request ≡ false → own ≡ some
    → delayed_answer board (is_read request.command) bridge.delayed at held coming some ≡ Gives step (Lane lane) → (at ≡ lane) × Gives_at board bridge owed held coming request own step
delayed_gives board bridge owed held coming request own at lane step None delayed is_some gives =
    let F : Step → Type 0 = Gives_at board bridge owed held coming request own in
    let P : Bool → Type 0 = λ b. nat_lt (length held) bridge.delayed ≡ b → cond b (Gives Latch (Lane at)) (Retry NoSlot) ≡ Gives step (Lane lane) → (at ≡ lane) × F step in
    (elim (nat_lt (length held) bridge.delayed) as P [
      | true ↦ λ below e. let same : Latch ≡ step = cc in (cc, subst F same (delayed, is_some, grind (arith, nat_tests)))
      | false ↦ λ above e. cc
    ]) refl gives
delayed_gives board bridge owed held coming request own at lane step (Some slot) delayed is_some gives =
    let F : Step → Type 0 = Gives_at board bridge owed held coming request own in
    let taken = completion_gives board (is_read request.command) at lane coming own slot step (find (is_done_for slot.number) coming) is_some refl gives in
    (taken.0, subst F (sym taken.1.1) (delayed, taken.1.2))

lane_gives : (board : Board) (world : World) (h : List Event) (on : ℕ) (by : By) (o : OpId) (request : Request) (step : Step) (at lane : BridgeLane) (found : Option Bridge)
    → bridge_to board at.bus ≡ found → request_of board o on ≡ Some request → claim board on (without (through h o) request) ≡ Lane at
    → lane_answer board (world) on by o (without (through h o) request) at found ≡ Gives step (Lane lane)
    → AtLaneIn board world h on by o step lane
lane_gives board world h on by o request step at lane None is_bridge is_request claims gives = cc
lane_gives board world h on by o request step at lane (Some bridge) is_bridge is_request claims gives =
    let own : Option Slot = find (is_own board on by o) (world at).held in
    let F : Step → Type 0 = Gives_at board bridge (world at).owed (world at).held (world (lane_back at)).standing request own in
    let one : Answer = posted_answer (world at).owed bridge.posted at in
    let other : Answer = delayed_answer board (is_read request.command) bridge.delayed at (world at).held (world (lane_back at)).standing own in
    let P : Bool → Type 0 = λ b. is_posted request ≡ b → cond b one other ≡ Gives step (Lane lane) → (at ≡ lane) × F step in
    let gave : (at ≡ lane) × F step = (elim (is_posted request) as P [
      | true ↦ λ posted e. posted_gives board bridge (world at).owed (world at).held (world (lane_back at)).standing request own at lane step posted e
      | false ↦ λ delayed e. delayed_gives board bridge (world at).owed (world at).held (world (lane_back at)).standing request own at lane step own delayed refl e
    ]) refl gives in
    let G : BridgeLane → Type 0 = λ l. AtLaneIn board world h on by o step l in
    subst G gave.0 record { request = request; is_request = is_request; claims = claims; bridge = bridge; is_bridge = is_bridge; gives = gave.1 }

place_gives : (board : Board) (world : World) (h : List Event) (on : ℕ) (by : By) (o : OpId) (request : Request) (step : Step) (lane : BridgeLane) (place : Place)
    → request_of board o on ≡ Some request → claim board on (without (through h o) request) ≡ place
    → answer_by board (world) h on by o (without (through h o) request) place ≡ Gives step (Lane lane)
    → AtLaneIn board world h on by o step lane
place_gives board world h on by o request step lane (Target target) is_request claims gives =
    let P : Option TargetAgent → Type 0 = λ found. target_answer board h target (without (through h o) request) found ≡ Gives step (Lane lane) → AtLaneIn board world h on by o step lane in
    (elim (slice_get board.targets target) as P [ None ↦ λ e. cc | Some agent ↦ λ e. cc ]) gives
place_gives board world h on by o request step lane (Header bus) is_request claims gives =
    let P : Option Bridge → Type 0 = λ found. header_answer bus (without (through h o) request) found ≡ Gives step (Lane lane) → AtLaneIn board world h on by o step lane in
    (elim (bridge_to board bus) as P [ None ↦ λ e. cc | Some bridge ↦ λ e. cc ]) gives
place_gives board world h on by o request step lane (Lane at) is_request claims gives =
    lane_gives board world h on by o request step at lane (bridge_to board at.bus) refl is_request claims gives
place_gives board world h on by o request step lane Nobody is_request claims gives = cc

request_gives : (board : Board) (world : World) (h : List Event) (on : ℕ) (by : By) (o : OpId) (step : Step) (lane : BridgeLane) (some : Option Request)
    → request_of board o on ≡ some → answer_to board (world) h on by o some ≡ Gives step (Lane lane) → AtLaneIn board world h on by o step lane
request_gives board world h on by o step lane None is_request gives = cc
request_gives board world h on by o step lane (Some request) is_request gives =
    place_gives board world h on by o request step lane (claim board on (without (through h o) request)) is_request refl gives

pub answered_in : (board : Board) (world : World) (h : List Event) (on : ℕ) (by : By) (o : OpId) (step : Step) (lane : BridgeLane)
    → answer_in board world h on by o ≡ Gives step (Lane lane) → AtLaneIn board world h on by o step lane
answered_in board world h on by o step lane gives = request_gives board world h on by o step lane (request_of board o on) refl gives

-- on the lanes after a history
abbrev pub AtLane : Board → List Event → ℕ → By → OpId → Step → BridgeLane → Type 0
AtLane board h on by o step lane = AtLaneIn board (world_of board h) h on by o step lane

pub answered_at : (board : Board) (h : List Event) (on : ℕ) (by : By) (o : OpId) (step : Step) (lane : BridgeLane)
    → answer board h on by o ≡ Gives step (Lane lane) → AtLane board h on by o step lane
answered_at board h on by o step lane gives = answered_in board (world_of board h) h on by o step lane gives
