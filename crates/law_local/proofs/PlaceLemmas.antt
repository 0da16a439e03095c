-- What a target does is done on its bus.
use Rattle.std.proofs.Common.{◌≡◌, ◌≢◌, ℕ, zero, suc, ◌+◌, ◌≤◌, Bool, true, false, cond, ◌&&◌, ◌==◌, eqb, nat_lt, nat_le, List, [], ◌∷◌, length, Option, Some, None, refl, sym, ap, subst, ◌∙◌, arith, slice_get}
use Rattle.std.specs.List.{find, list_any, list_all, position_from}
use Rattle.std.proofs.lemmas.Bool.{eqb-true, eqb-false, and_parts}
use Rattle.list_facts.specs.Lists.{before}
use Rattle.pci_command.specs.declared.command.Space.{Space}
use Rattle.pci_command.specs.declared.command.Space.TheVariants.{Mem, Io, Cfg}
use Rattle.pci_command.specs.declared.request.Request.{Request}
use Rattle.pci_command.specs.declared.op_id.OpId.{OpId}
use Rattle.pci_command.specs.Command.{is_read, space_of}
use Rattle.board_model.specs.declared.agents.Target.{Target as TargetAgent}
use Rattle.board_model.specs.declared.bridge.Bridge.{Bridge}
use Rattle.board_model.specs.declared.bridge.Lane.{Lane as BridgeLane}
use Rattle.board_model.specs.declared.bridge.Place.{Place}
use Rattle.board_model.specs.declared.bridge.Place.TheVariants.{Target, Header, Lane, Nobody}
use Rattle.board_model.specs.declared.board.Board.{Board}
use Rattle.board_model.specs.Requests.{request_of, is_posted}
use Rattle.board_model.specs.Claims.{range_holds, bridge_holds, decodes_down, claim_upwards, claim_by_bridge, claim_by_address, claim_by_header, claim_by_device, claim_by_bus, is_type_0, device_in, bus_in, claim_in_configuration, claim_in_space, claim}
use Rattle.history_model.specs.declared.event.By.{By}
use Rattle.history_model.specs.declared.event.Step.{Step}
use Rattle.history_model.specs.declared.event.Step.TheVariants.{Land, Part, Read, Accept, Latch, Take, Stall, MasterAbort, TargetAbort}
use Rattle.history_model.specs.declared.event.Event.{Event}
use Rattle.history_model.specs.declared.event.Event.TheVariants.{Act, Arrive}
use Rattle.history_model.specs.declared.item.Carried.{Carried}
use Rattle.history_model.specs.declared.item.Carried.TheVariants.{Post, Ask, Done, Room, Gone}
use Rattle.history_model.specs.declared.item.Slot.{Slot}
use Rattle.history_model.specs.declared.item.Answer.{Answer}
use Rattle.history_model.specs.declared.item.Answer.TheVariants.{Gives, Retry}
use Rattle.history_model.specs.declared.item.Cause.TheVariants.{Full, NoSlot, Behind}
use Rattle.history_model.specs.Lanes.{is_done_for}
use Rattle.history_model.specs.World.{World, is_own, world_of}
use Rattle.history_model.specs.Words.{through, without}
use Rattle.history_model.specs.Answers.{stalls_at, stalls_by, stalls_used, target_answer, header_answer, completion_passes, completion_answer, delayed_answer, posted_answer, lane_answer, bridge_to, answer_by, answer_to, answer}
use Rattle.history_model.specs.Runs.{Allowed, Run}
use Rattle.history_model.specs.Local.{bus_of}
use Rattle.law_local.specs.Known.{events_on}
use Rattle.board_model.specs.Ways.{lane_back}

-- a position is not before the first
from_first : {X : Type 0} (test : X → Bool) (start at : ℕ) (xs : List X) → position_from test start xs ≡ Some at → start ≤ at
from_first test start at [] is = cc
from_first test start at (x ∷ xs) is =
    let P : Bool → Type 0 = λ b. cond b (Some start) (position_from test (start + 1) xs) ≡ Some at → start ≤ at in
    (elim (test x) as P [
      | true ↦ λ e. let same : start ≡ at = cc in omega arith
      | false ↦ λ e. let after = from_first test (start + 1) at xs e in omega arith
    ]) is

-- what stands at the position passes
at_position : {X : Type 0} (test : X → Bool) (start i : ℕ) (xs : List X) (x : X) → slice_get xs i ≡ Some x → position_from test start xs ≡ Some (start + i) → test x ≡ true
at_position test start i [] x there is = cc
at_position test start zero (y ∷ ys) x there is =
    let same : y ≡ x = cc in
    let P : Bool → Type 0 = λ b. test y ≡ b → cond b (Some start) (position_from test (start + 1) ys) ≡ Some (start + 0) → test y ≡ true in
    let passes : test y ≡ true = (elim (test y) as P [
      | true ↦ λ passes _. passes
      | false ↦ λ _ e. let after = from_first test (start + 1) (start + 0) ys e in absurd (omega arith)
    ]) refl is in
    subst (λ z. test z ≡ true) same passes
at_position test start (suc i) (y ∷ ys) x there is =
    let P : Bool → Type 0 = λ b. cond b (Some start) (position_from test (start + 1) ys) ≡ Some (start + suc i) → test x ≡ true in
    (elim (test y) as P [
      | true ↦ λ e. let same : start ≡ start + suc i = cc in absurd (omega arith)
      | false ↦ λ e. at_position test (start + 1) i ys x there (e ∙ ap Some (omega arith))
    ]) is

-- no bridge claims as a target
upwards_no_target : (bus : ℕ) (space : Space) (address t : ℕ) (own : Option Bridge) → claim_upwards bus space address own ≡ Target t → ⊥
upwards_no_target bus space address t None is = cc
upwards_no_target bus space address t (Some own) is =
    let P : Bool → Type 0 = λ b. cond b Nobody (Lane (record { bus = bus; up = true })) ≡ Target t → ⊥ in
    (elim (bridge_holds space address own) as P [ true ↦ λ e. cc | false ↦ λ e. cc ]) is

-- nor a bridge below
bridge_no_target : (board : Board) (bus : ℕ) (space : Space) (address t : ℕ) (found : Option Bridge) → claim_by_bridge board bus space address found ≡ Target t → ⊥
bridge_no_target board bus space address t (Some child) is = cc
bridge_no_target board bus space address t None is = upwards_no_target bus space address t (bridge_to board bus) is

-- nor a header
header_no_target : (t : ℕ) (found : Option Bridge) → claim_by_header found ≡ Target t → ⊥
header_no_target t (Some bridge) is = cc
header_no_target t None is = cc

-- nor the bridge on the way to a bus
bus_no_target : (t : ℕ) (found : Option Bridge) → claim_by_bus found ≡ Target t → ⊥
bus_no_target t (Some bridge) is = cc
bus_no_target t None is = cc

-- the target found passes the test, by which it is on the bus
found_on_bus : (board : Board) (bus t : ℕ) (more : TargetAgent → Bool) (target : TargetAgent) → slice_get board.targets t ≡ Some target
    → position_from (λ (one : TargetAgent). one.bus == bus && more one) 0 board.targets ≡ Some t → target.bus ≡ bus
found_on_bus board bus t more target there is =
    let test : TargetAgent → Bool = λ one. one.bus == bus && more one in
    let zeroed : position_from test 0 board.targets ≡ Some (0 + t) = is ∙ ap Some (omega arith) in
    eqb-true target.bus bus (and_parts (target.bus == bus) (more target) (at_position test 0 t board.targets target there zeroed)).0

-- a target that decodes the address
by_address_bus : (board : Board) (bus : ℕ) (space : Space) (address t : ℕ) (target : TargetAgent) (found : Option ℕ) → slice_get board.targets t ≡ Some target
    → position_from (λ (one : TargetAgent). one.bus == bus && list_any (range_holds space address) one.ranges) 0 board.targets ≡ found
    → claim_by_address board bus space address found ≡ Target t → target.bus ≡ bus
by_address_bus board bus space address t target (Some n) there is claims =
    let same : n ≡ t = cc in found_on_bus board bus t (λ one. list_any (range_holds space address) one.ranges) target there (is ∙ ap Some same)
by_address_bus board bus space address t target None there is claims = absurd (bridge_no_target board bus space address t (find (decodes_down bus space address) board.bridges) claims)

-- a target by its device number
by_device_bus : (board : Board) (bus device t : ℕ) (target : TargetAgent) (found : Option ℕ) → slice_get board.targets t ≡ Some target
    → position_from (λ (one : TargetAgent). one.bus == bus && one.device == device) 0 board.targets ≡ found
    → claim_by_device board bus device found ≡ Target t → target.bus ≡ bus
by_device_bus board bus device t target (Some n) there is claims =
    let same : n ≡ t = cc in found_on_bus board bus t (λ one. one.device == device) target there (is ∙ ap Some same)
by_device_bus board bus device t target None there is claims =
    absurd (header_no_target t (find (λ (bridge : Bridge). bridge.parent == bus && bridge.device == device) board.bridges) claims)

-- in configuration space
configuration_bus : (board : Board) (bus address t : ℕ) (target : TargetAgent) → slice_get board.targets t ≡ Some target → claim_in_configuration board bus address ≡ Target t → target.bus ≡ bus
configuration_bus board bus address t target there claims =
    let device : Place = claim_by_device board bus (device_in address) (position_from (λ (one : TargetAgent). one.bus == bus && one.device == device_in address) 0 board.targets) in
    let behind : Option Bridge = find (λ (bridge : Bridge). bridge.parent == bus && nat_le bridge.bus (bus_in address) && nat_le (bus_in address) bridge.last) board.bridges in
    let P : Bool → Type 0 = λ b. cond b device (claim_by_bus behind) ≡ Target t → target.bus ≡ bus in
    (elim (is_type_0 address) as P [
      | true ↦ λ e. by_device_bus board bus (device_in address) t target (position_from (λ (one : TargetAgent). one.bus == bus && one.device == device_in address) 0 board.targets) there refl e
      | false ↦ λ e. absurd (bus_no_target t behind e)
    ]) claims

-- in any space
space_bus : (board : Board) (bus : ℕ) (space : Space) (address t : ℕ) (target : TargetAgent) → slice_get board.targets t ≡ Some target → claim_in_space board bus space address ≡ Target t → target.bus ≡ bus
space_bus board bus Mem address t target there claims =
    by_address_bus board bus Mem address t target (position_from (λ (one : TargetAgent). one.bus == bus && list_any (range_holds Mem address) one.ranges) 0 board.targets) there refl claims
space_bus board bus Io address t target there claims =
    by_address_bus board bus Io address t target (position_from (λ (one : TargetAgent). one.bus == bus && list_any (range_holds Io address) one.ranges) 0 board.targets) there refl claims
space_bus board bus Cfg address t target there claims = configuration_bus board bus address t target there claims

-- a target claims on its own bus alone
pub target_on_bus : (board : Board) (bus : ℕ) (request : Request) (t : ℕ) (target : TargetAgent) → slice_get board.targets t ≡ Some target → claim board bus request ≡ Target t → target.bus ≡ bus
target_on_bus board bus request t target there claims = space_bus board bus (space_of request.command) request.address t target there claims

-- no lane answers as a target
completion_no_target : (board : Board) (read : Bool) (at : BridgeLane) (older : List Carried) (item : Option Carried) (step : Step) (t : ℕ) → completion_answer board read at older item ≡ Gives step (Target t) → ⊥
completion_no_target board read at older None step t gives = cc
completion_no_target board read at older (Some (Post op)) step t gives = cc
completion_no_target board read at older (Some (Ask op slot)) step t gives = cc
completion_no_target board read at older (Some (Done op slot outcome)) step t gives =
    let P : Bool → Type 0 = λ b. cond b (Gives (Take outcome) (Lane at)) (Retry Behind) ≡ Gives step (Target t) → ⊥ in
    (elim (list_all (completion_passes board read) older) as P [ true ↦ λ e. cc | false ↦ λ e. cc ]) gives
completion_no_target board read at older (Some Room) step t gives = cc
completion_no_target board read at older (Some (Gone slot)) step t gives = cc

-- nor does it for a delayed request
delayed_no_target : (board : Board) (read : Bool) (depth : ℕ) (at : BridgeLane) (held : List Slot) (coming : List Carried) (own : Option Slot) (step : Step) (t : ℕ) → delayed_answer board read depth at held coming own ≡ Gives step (Target t) → ⊥
delayed_no_target board read depth at held coming None step t gives =
    let P : Bool → Type 0 = λ b. cond b (Gives Latch (Lane at)) (Retry NoSlot) ≡ Gives step (Target t) → ⊥ in
    (elim (nat_lt (length held) depth) as P [ true ↦ λ e. cc | false ↦ λ e. cc ]) gives
delayed_no_target board read depth at held coming (Some slot) step t gives =
    completion_no_target board read at (before (is_done_for slot.number) coming) (find (is_done_for slot.number) coming) step t gives

-- nor for a posted write
posted_no_target : (owed depth : ℕ) (at : BridgeLane) (step : Step) (t : ℕ) → posted_answer owed depth at ≡ Gives step (Target t) → ⊥
posted_no_target owed depth at step t gives =
    let P : Bool → Type 0 = λ b. cond b (Gives Accept (Lane at)) (Retry Full) ≡ Gives step (Target t) → ⊥ in
    (elim (nat_lt owed depth) as P [ true ↦ λ e. cc | false ↦ λ e. cc ]) gives

-- nor for any request
lane_no_target : (board : Board) (world : World) (bus : ℕ) (by : By) (o : OpId) (request : Request) (at : BridgeLane) (found : Option Bridge) (step : Step) (t : ℕ)
    → lane_answer board world bus by o request at found ≡ Gives step (Target t) → ⊥
lane_no_target board world bus by o request at None step t gives = cc
lane_no_target board world bus by o request at (Some bridge) step t gives =
    let own : Option Slot = find (is_own board bus by o) (world at).held in
    let one : Answer = posted_answer (world at).owed bridge.posted at in
    let other : Answer = delayed_answer board (is_read request.command) bridge.delayed at (world at).held (world (lane_back at)).standing own in
    let P : Bool → Type 0 = λ b. cond b one other ≡ Gives step (Target t) → ⊥ in
    (elim (is_posted request) as P [
      | true ↦ λ e. posted_no_target (world at).owed bridge.posted at step t e
      | false ↦ λ e. delayed_no_target board (is_read request.command) bridge.delayed at (world at).held (world (lane_back at)).standing own step t e
    ]) gives

-- who answers as a target claims
pub record AtTarget (board : Board) (h : List Event) (bus : ℕ) (o : OpId) (t : ℕ) : Type 0 where
  pub request : Request
  pub is_request : request_of board o bus ≡ Some request
  pub claims : claim board bus (without (through h o) request) ≡ Target t

-- whoever answers as a target is one
place_target : (board : Board) (h : List Event) (bus : ℕ) (by : By) (o : OpId) (request : Request) (place : Place) (step : Step) (t : ℕ) → answer_by board (world_of board h) h bus by o request place ≡ Gives step (Target t) → place ≡ Target t
place_target board h bus by o request (Target n) step t gives =
    let P : Option TargetAgent → Type 0 = λ found. target_answer board h n request found ≡ Gives step (Target t) → Target n ≡ Target t in
    (elim (slice_get board.targets n) as P [ None ↦ λ e. cc | Some agent ↦ λ e. cc ]) gives
place_target board h bus by o request (Header n) step t gives =
    let P : Option Bridge → Type 0 = λ found. header_answer n request found ≡ Gives step (Target t) → Header n ≡ Target t in
    (elim (bridge_to board n) as P [ None ↦ λ e. cc | Some bridge ↦ λ e. cc ]) gives
place_target board h bus by o request (Lane lane) step t gives = absurd (lane_no_target board (world_of board h) bus by o request lane (bridge_to board lane.bus) step t gives)
place_target board h bus by o request Nobody step t gives = cc

-- so it claims what is left of the request
pub answered_target : (board : Board) (h : List Event) (bus : ℕ) (by : By) (o : OpId) (step : Step) (t : ℕ) → answer board h bus by o ≡ Gives step (Target t) → AtTarget board h bus o t
answered_target board h bus by o step t gives =
    let P : Option Request → Type 0 = λ found. request_of board o bus ≡ found → answer_to board (world_of board h) h bus by o found ≡ Gives step (Target t) → AtTarget board h bus o t in
    (elim (request_of board o bus) as P [
      | None ↦ λ _ e. cc
      | Some request ↦ λ is e.
          let rest : Request = without (through h o) request in
          record { request = request; is_request = is; claims = place_target board h bus by o rest (claim board bus rest) step t e }
    ]) refl gives

-- so an event at a target is on its bus
pub event_on_bus : (board : Board) (h : List Event) (bus : ℕ) (by : By) (o : OpId) (step : Step) (t : ℕ) (target : TargetAgent) → slice_get board.targets t ≡ Some target
    → Allowed board h (Act bus by o step (Target t)) → target.bus ≡ bus
event_on_bus board h bus by o step t target there allowed =
    let at = answered_target board h bus by o step t allowed.1 in
    target_on_bus board bus (without (through h o) at.request) t target there at.claims

module _ (board : Board) (t : ℕ) (target : TargetAgent) (there : slice_get board.targets t ≡ Some target) where
  -- a stall on another bus uses none of the tokens of the target
  stall_apart : (h : List Event) (bus : ℕ) (by : By) (o : OpId) (step : Step) (place : Place) → Allowed board h (Act bus by o step place) → bus ≢ target.bus → stalls_at t place ≡ 0
  stall_apart h bus by o step (Target n) allowed apart =
      let S : Bool → ℕ = λ b. cond b 1 0 in
      let P : Bool → Type 0 = λ b. eqb n t ≡ b → S b ≡ 0 in
      (elim (eqb n t) as P [
        | true ↦ λ same.
            let F : ℕ → Type 0 = λ m. Allowed board h (Act bus by o step (Target m)) in
            absurd (apart (sym (event_on_bus board h bus by o step t target there (subst F (eqb-true n t same) allowed))))
        | false ↦ λ _. refl
      ]) refl
  stall_apart h bus by o step (Header n) allowed apart = refl
  stall_apart h bus by o step (Lane lane) allowed apart = refl
  stall_apart h bus by o step Nobody allowed apart = refl

  -- no event on another bus uses one
  stalls_apart : (h : List Event) (e : Event) → Allowed board h e → bus_of board e ≢ target.bus → stalls_by t e ≡ 0
  stalls_apart h (Act bus by o Land place) allowed apart = refl
  stalls_apart h (Act bus by o (Part phases) place) allowed apart = refl
  stalls_apart h (Act bus by o (Read value) place) allowed apart = refl
  stalls_apart h (Act bus by o Accept place) allowed apart = refl
  stalls_apart h (Act bus by o Latch place) allowed apart = refl
  stalls_apart h (Act bus by o (Take outcome) place) allowed apart = refl
  stalls_apart h (Act bus by o Stall place) allowed apart = stall_apart h bus by o Stall place allowed apart
  stalls_apart h (Act bus by o MasterAbort place) allowed apart = refl
  stalls_apart h (Act bus by o TargetAbort place) allowed apart = refl
  stalls_apart h (Arrive lane mark) allowed apart = refl

  -- the stall tokens of a target are used on its bus
  pub stalls_local : (h : List Event) → Run board h → stalls_used h t ≡ stalls_used (events_on board target.bus h) t
  stalls_local [] run = refl
  stalls_local (e ∷ h) run =
      let old = stalls_local h run.1 in
      let P : Bool → Type 0 = λ b. eqb (bus_of board e) target.bus ≡ b → stalls_by t e + stalls_used h t ≡ stalls_used (cond b (e ∷ events_on board target.bus h) (events_on board target.bus h)) t in
      (elim (eqb (bus_of board e) target.bus) as P [
        | true ↦ λ _. ap (λ n. stalls_by t e + n) old
        | false ↦ λ apart. let none = stalls_apart h e run.0 (eqb-false (bus_of board e) target.bus apart) in omega (arith, old)
      ]) refl
