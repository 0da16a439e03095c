-- Who is told to come again: its operation is claimed by a lane, and the bridge has no room for it or its completion
-- is not there.
use Rattle.std.proofs.Common.{◌≡◌, ℕ, ◌≤◌, Bool, true, false, cond, nat_lt, List, length, Option, Some, None, refl, arith, ◌⊎◌, inl, inr, slice_get}
use Rattle.std.specs.List.{find}
use Rattle.std.proofs.lemmas.Bool.Decides.{nat_tests}
use Rattle.list_facts.specs.Lists.{before}
use Rattle.pci_command.specs.declared.request.Request.{Request}
use Rattle.pci_command.specs.declared.op_id.OpId.{OpId}
use Rattle.pci_command.specs.Command.{is_read}
use Rattle.board_model.specs.declared.agents.Target.{Target as TargetAgent}
use Rattle.board_model.specs.declared.bridge.Bridge.{Bridge}
use Rattle.board_model.specs.declared.bridge.Lane.{Lane as BridgeLane}
use Rattle.board_model.specs.declared.bridge.Place.{Place}
use Rattle.board_model.specs.declared.bridge.Place.TheVariants.{Target, Header, Lane, Nobody}
use Rattle.board_model.specs.declared.board.Board.{Board}
use Rattle.board_model.specs.Requests.{request_of, is_posted}
use Rattle.board_model.specs.Claims.{claim}
use Rattle.history_model.specs.declared.event.By.{By}
use Rattle.history_model.specs.declared.event.Step.TheVariants.{Accept, Latch}
use Rattle.history_model.specs.declared.event.Event.{Event}
use Rattle.history_model.specs.declared.event.Event.TheVariants.{Act}
use Rattle.history_model.specs.declared.item.Carried.{Carried}
use Rattle.history_model.specs.declared.item.Slot.{Slot}
use Rattle.history_model.specs.declared.item.Answer.{Answer}
use Rattle.history_model.specs.declared.item.Answer.TheVariants.{Gives, Retry}
use Rattle.history_model.specs.declared.item.Cause.{Cause}
use Rattle.history_model.specs.declared.item.Cause.TheVariants.{Full, NoSlot}
use Rattle.history_model.specs.Lanes.{is_done_for}
use Rattle.history_model.specs.World.{World, is_own, world_of}
use Rattle.board_model.specs.Ways.{lane_back}
use Rattle.history_model.specs.Words.{through, without}
use Rattle.history_model.specs.Answers.{target_answer, header_answer, completion_answer, delayed_answer, posted_answer, lane_answer, bridge_to, answer_by, answer_to, answer, wants}
use Rattle.law_lanes.specs.progress.Next.{Next}

-- why a lane refuses: as many posted writes are owed as it keeps; as many slots are held and none is the own one; or
-- the own slot waits for its completion
pub data Refusal (board : Board) (bridge : Bridge) (owed : ℕ) (held : List Slot) (coming : List Carried) (lane : BridgeLane) (request : Request) (own : Option Slot) : Type 0 where
  full : is_posted request ≡ true → bridge.posted ≤ owed → Refusal board bridge owed held coming lane request own
  no_slot : is_posted request ≡ false → own ≡ None → bridge.delayed ≤ length held → Refusal board bridge owed held coming lane request own
  waits : is_posted request ≡ false → (slot : Slot) → own ≡ Some slot → (cause : Cause)
      → completion_answer board (is_read request.command) lane (before (is_done_for slot.number) coming) (find (is_done_for slot.number) coming) ≡ Retry cause
      → Refusal board bridge owed held coming lane request own

-- the lane that claims what is left of the request refuses it
pub record Refused (board : Board) (h : List Event) (on : ℕ) (by : By) (o : OpId) : Type 0 where
  pub request : Request
  pub is_request : request_of board o on ≡ Some request
  pub lane : BridgeLane
  pub claims : claim board on (without (through h o) request) ≡ Lane lane
  pub bridge : Bridge
  pub is_bridge : bridge_to board lane.bus ≡ Some bridge
  pub why : Refusal board bridge (world_of board h lane).owed (world_of board h lane).held (world_of board h (lane_back lane)).standing lane request
      (find (is_own board on by o) (world_of board h lane).held)

module _ (board : Board) (bridge : Bridge) (owed : ℕ) (held : List Slot) (coming : List Carried) (lane : BridgeLane) (request : Request) (own : Option Slot) where
  -- no more is owed than the bridge keeps
  posted_refused : (cause : Cause) → is_posted request ≡ true → posted_answer owed bridge.posted lane ≡ Retry cause → Refusal board bridge owed held coming lane request own
  posted_refused cause posted refuses =
      let R : Type 0 = Refusal board bridge owed held coming lane request own in
      let P : Bool → Type 0 = λ b. nat_lt owed bridge.posted ≡ b → cond b (Gives Accept (Lane lane)) (Retry Full) ≡ Retry cause → R in
      (elim (nat_lt owed bridge.posted) as P [ true ↦ λ _ e. cc | false ↦ λ above _. full posted (grind (arith, nat_tests)) ]) refl refuses

  -- no slot is left, or the own one waits
  delayed_refused : (cause : Cause) (some : Option Slot) → is_posted request ≡ false → own ≡ some
      → delayed_answer board (is_read request.command) bridge.delayed lane held coming some ≡ Retry cause → Refusal board bridge owed held coming lane request own
  delayed_refused cause None delayed is refuses =
      let R : Type 0 = Refusal board bridge owed held coming lane request own in
      let P : Bool → Type 0 = λ b. nat_lt (length held) bridge.delayed ≡ b → cond b (Gives Latch (Lane lane)) (Retry NoSlot) ≡ Retry cause → R in
      (elim (nat_lt (length held) bridge.delayed) as P [ true ↦ λ _ e. cc | false ↦ λ above _. no_slot delayed is (grind (arith, nat_tests)) ]) refl refuses
  delayed_refused cause (Some slot) delayed is refuses = waits delayed slot is cause refuses

module _ (board : Board) (h : List Event) (on : ℕ) (by : By) (o : OpId) (cause : Cause) where
  -- at a lane
  lane_refused : (request : Request) (lane : BridgeLane) (found : Option Bridge) → bridge_to board lane.bus ≡ found → request_of board o on ≡ Some request
      → claim board on (without (through h o) request) ≡ Lane lane
      → lane_answer board (world_of board h) on by o (without (through h o) request) lane found ≡ Retry cause → Refused board h on by o
  lane_refused request lane None is_bridge is_request claims refuses = cc
  lane_refused request lane (Some bridge) is_bridge is_request claims refuses =
      let world : World = world_of board h in
      let own : Option Slot = find (is_own board on by o) (world lane).held in
      let coming : List Carried = (world (lane_back lane)).standing in
      let one : Answer = posted_answer (world lane).owed bridge.posted lane in
      let other : Answer = delayed_answer board (is_read request.command) bridge.delayed lane (world lane).held coming own in
      let R : Type 0 = Refusal board bridge (world lane).owed (world lane).held coming lane request own in
      let P : Bool → Type 0 = λ b. is_posted request ≡ b → cond b one other ≡ Retry cause → R in
      let why : R = (elim (is_posted request) as P [
        | true ↦ λ posted e. posted_refused board bridge (world lane).owed (world lane).held coming lane request own cause posted e
        | false ↦ λ delayed e. delayed_refused board bridge (world lane).owed (world lane).held coming lane request own cause own delayed refl e
      ]) refl refuses in
      record { request = request; is_request = is_request; lane = lane; claims = claims; bridge = bridge; is_bridge = is_bridge; why = why }

  -- at whom claims
  place_refused : (request : Request) (place : Place) → request_of board o on ≡ Some request → claim board on (without (through h o) request) ≡ place
      → answer_by board (world_of board h) h on by o (without (through h o) request) place ≡ Retry cause → Refused board h on by o
  place_refused request (Target target) is_request claims refuses =
      let P : Option TargetAgent → Type 0 = λ found. target_answer board h target (without (through h o) request) found ≡ Retry cause → Refused board h on by o in
      (elim (slice_get board.targets target) as P [ None ↦ λ e. cc | Some agent ↦ λ e. cc ]) refuses
  place_refused request (Header bus) is_request claims refuses =
      let P : Option Bridge → Type 0 = λ found. header_answer bus (without (through h o) request) found ≡ Retry cause → Refused board h on by o in
      (elim (bridge_to board bus) as P [ None ↦ λ e. cc | Some bridge ↦ λ e. cc ]) refuses
  place_refused request (Lane lane) is_request claims refuses = lane_refused request lane (bridge_to board lane.bus) refl is_request claims refuses
  place_refused request Nobody is_request claims refuses = cc

  -- of the request of the operation
  request_refused : (some : Option Request) → request_of board o on ≡ some → answer_to board (world_of board h) h on by o some ≡ Retry cause → Refused board h on by o
  request_refused None is_request refuses = cc
  request_refused (Some request) is_request refuses = place_refused request (claim board on (without (through h o) request)) is_request refl refuses

-- what is presented is an event, or a lane refuses it
pub presented : (board : Board) (h : List Event) (on : ℕ) (by : By) (o : OpId) → wants board h on by o ≡ true → Next board h ⊎ Refused board h on by o
presented board h on by o wanted =
    let Result : Type 0 = Next board h ⊎ Refused board h on by o in
    let P : Answer → Type 0 = λ given. answer board h on by o ≡ given → Result in
    (elim (answer board h on by o) as P [
      | Gives step place ↦ λ gives. inl (record { event = Act on by o step place; allowed = (wanted, gives) })
      | Retry cause ↦ λ refuses. inr (request_refused board h on by o cause (request_of board o on) refl refuses)
    ]) refl
