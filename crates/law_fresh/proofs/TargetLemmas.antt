-- A target that answers is on the bus, and claims there.
use Rattle.std.proofs.Common.{◌≡◌, ℕ, Bool, true, false, ◌&&◌, ◌==◌, ◌/◌, ◌%◌, ◌^◌, cond, nat_lt, nat_le, eqb-true, List, length, Option, Some, None, refl, ap, subst, ◌∙◌, arith, slice_get}
use Rattle.std.specs.List.{find, list_any, list_all, position_from}
use Rattle.list_facts.specs.Lists.{before}
use Rattle.pci_command.specs.declared.command.Space.{Space}
use Rattle.pci_command.specs.declared.command.Space.TheVariants.{Mem, Io, Cfg}
use Rattle.pci_command.specs.declared.request.Request.{Request}
use Rattle.pci_command.specs.declared.op_id.OpId.{OpId}
use Rattle.pci_command.specs.Command.{space_of, is_read}
use Rattle.board_model.specs.declared.agents.Target.{Target as TargetAgent}
use Rattle.board_model.specs.declared.bridge.Bridge.{Bridge}
use Rattle.board_model.specs.declared.bridge.Lane.{Lane as BridgeLane}
use Rattle.board_model.specs.declared.bridge.Place.{Place}
use Rattle.board_model.specs.declared.bridge.Place.TheVariants.{Target, Header, Lane, Nobody}
use Rattle.board_model.specs.declared.board.Board.{Board}
use Rattle.board_model.specs.Requests.{request_of, is_posted}
use Rattle.board_model.specs.Claims.{range_holds, bridge_holds, decodes_down, claim_upwards, claim_by_bridge, claim_by_address, claim_by_header, claim_by_device, claim_by_bus, is_type_0, device_in, bus_in, claim_in_configuration, claim_in_space, claim}
use Rattle.board_model.specs.HeaderBytes.{header_word}
use Rattle.history_model.specs.declared.event.By.{By}
use Rattle.history_model.specs.declared.event.Step.{Step}
use Rattle.history_model.specs.declared.event.Step.TheVariants.{Read, Accept, Latch, Take, MasterAbort}
use Rattle.history_model.specs.declared.event.Event.{Event}
use Rattle.history_model.specs.declared.item.Carried.{Carried}
use Rattle.history_model.specs.declared.item.Carried.TheVariants.{Post, Ask, Done, Room, Gone}
use Rattle.history_model.specs.declared.item.Slot.{Slot}
use Rattle.history_model.specs.declared.item.Answer.{Answer}
use Rattle.history_model.specs.declared.item.Answer.TheVariants.{Gives, Retry}
use Rattle.history_model.specs.declared.item.Cause.TheVariants.{Full, NoSlot, Behind}
use Rattle.history_model.specs.Lanes.{is_done_for}
use Rattle.history_model.specs.World.{World, is_own, world_of}
use Rattle.history_model.specs.Words.{through, without}
use Rattle.history_model.specs.Answers.{target_step, target_answer, header_answer, completion_passes, completion_answer, delayed_answer, posted_answer, lane_answer, bridge_to, answer_by, answer_to, answer}
use Rattle.law_fresh.proofs.ListLemmas.{found_at}
use Rattle.std.proofs.lemmas.Bool.{and_parts}
use Rattle.board_model.specs.Ways.{lane_back}

-- a target that claims is on the bus
module _ (board : Board) (on : ℕ) where
  abbrev OnBus : ℕ → Type 0
  OnBus place = (agent : TargetAgent) × (slice_get board.targets place ≡ Some agent) × (agent.bus ≡ on)

  by_test : (other : TargetAgent → Bool) (place : ℕ) → position_from (λ (target : TargetAgent). target.bus == on && other target) 0 board.targets ≡ Some place → OnBus place
  by_test other place some =
      let test : TargetAgent → Bool = λ target. target.bus == on && other target in
      let at = found_at test 0 board.targets place some in
      let index : at.index ≡ place = let is = at.is_at in omega arith in
      let bus : at.one.bus ≡ on = eqb-true at.one.bus on (and_parts (at.one.bus == on) (other at.one) at.passes).0 in
      (at.one, subst (λ i. slice_get board.targets i ≡ Some at.one) index at.is, bus)

  by_bridge : (X : Type 0) (space : Space) (address : ℕ) (found : Option Bridge) (place : ℕ) → claim_by_bridge board on space address found ≡ Target place → X
  by_bridge X space address (Some child) place is = cc
  by_bridge X space address None place is =
      let P : Option Bridge → Type 0 = λ own. claim_upwards on space address own ≡ Target place → X in
      (elim (bridge_to board on) as P [
        | None ↦ λ e. cc
        | Some own ↦
            let Q : Bool → Type 0 = λ b. cond b Nobody (Lane (record { bus = on; up = true })) ≡ Target place → X in
            elim (bridge_holds space address own) as Q [ true ↦ λ e. cc | false ↦ λ e. cc ]
      ]) is

  by_address : (space : Space) (address : ℕ) (place : ℕ)
      → claim_by_address board on space address (position_from (λ (target : TargetAgent). target.bus == on && list_any (range_holds space address) target.ranges) 0 board.targets) ≡ Target place → OnBus place
  by_address space address place is =
      let test : TargetAgent → Bool = λ target. target.bus == on && list_any (range_holds space address) target.ranges in
      let P : Option ℕ → Type 0 = λ found. position_from test 0 board.targets ≡ found → claim_by_address board on space address found ≡ Target place → OnBus place in
      (elim (position_from test 0 board.targets) as P [
        | None ↦ λ _ e. by_bridge (OnBus place) space address (find (decodes_down on space address) board.bridges) place e
        | Some at ↦ λ some e. let same : at ≡ place = cc in by_test (λ target. list_any (range_holds space address) target.ranges) place (some ∙ ap Some same)
      ]) refl is

  by_header : (X : Type 0) (found : Option Bridge) (place : ℕ) → claim_by_header found ≡ Target place → X
  by_header X (Some bridge) place is = cc
  by_header X None place is = cc

  by_bus : (X : Type 0) (found : Option Bridge) (place : ℕ) → claim_by_bus found ≡ Target place → X
  by_bus X (Some bridge) place is = cc
  by_bus X None place is = cc

  by_device : (device : ℕ) (place : ℕ) → claim_by_device board on device (position_from (λ (target : TargetAgent). target.bus == on && target.device == device) 0 board.targets) ≡ Target place → OnBus place
  by_device device place is =
      let test : TargetAgent → Bool = λ target. target.bus == on && target.device == device in
      let P : Option ℕ → Type 0 = λ found. position_from test 0 board.targets ≡ found → claim_by_device board on device found ≡ Target place → OnBus place in
      (elim (position_from test 0 board.targets) as P [
        | None ↦ λ _ e. by_header (OnBus place) (find (λ (bridge : Bridge). bridge.parent == on && bridge.device == device) board.bridges) place e
        | Some at ↦ λ some e. let same : at ≡ place = cc in by_test (λ target. target.device == device) place (some ∙ ap Some same)
      ]) refl is

  by_configuration : (address : ℕ) (place : ℕ) → claim_in_configuration board on address ≡ Target place → OnBus place
  by_configuration address place is =
      let one : Place = claim_by_device board on (device_in address) (position_from (λ (target : TargetAgent). target.bus == on && target.device == device_in address) 0 board.targets) in
      let other : Option Bridge = find (λ (bridge : Bridge). bridge.parent == on && nat_le bridge.bus (bus_in address) && nat_le (bus_in address) bridge.last) board.bridges in
      let P : Bool → Type 0 = λ b. cond b one (claim_by_bus other) ≡ Target place → OnBus place in
      (elim (is_type_0 address) as P [ true ↦ λ e. by_device (device_in address) place e | false ↦ λ e. by_bus (OnBus place) other place e ]) is

  in_space : (space : Space) (address : ℕ) (place : ℕ) → claim_in_space board on space address ≡ Target place → OnBus place
  in_space Mem address place is = by_address Mem address place is
  in_space Io address place is = by_address Io address place is
  in_space Cfg address place is = by_configuration address place is

  pub target_on : (request : Request) (place : ℕ) → claim board on request ≡ Target place → (agent : TargetAgent) × (slice_get board.targets place ≡ Some agent) × (agent.bus ≡ on)
  target_on request place is = in_space (space_of request.command) request.address place is

-- an answer that comes from a target is that of the target that claims

-- the place of an answer, if it is that of a target, is the one that claims
abbrev From : Place → Place → Type 0
From claimant (Target place) = claimant ≡ Target place
From claimant (Header bus) = Unit {0}
From claimant (Lane lane) = Unit {0}
From claimant Nobody = Unit {0}

given_from : (claimant : Place) (step given : Step) (place at : Place) → Gives step place ≡ Gives given at → From claimant place → From claimant at
given_from claimant step given place at same from = let places : place ≡ at = cc in subst (From claimant) places from

target_from : (board : Board) (h : List Event) (place : ℕ) (request : Request) (found : Option TargetAgent) (step : Step) (at : Place) → target_answer board h place request found ≡ Gives step at → From (Target place) at
target_from board h place request None step at gives = given_from (Target place) MasterAbort step Nobody at gives tt
target_from board h place request (Some target) step at gives = given_from (Target place) (target_step board h place request target) step (Target place) at gives refl

header_from : (bus : ℕ) (request : Request) (found : Option Bridge) (step : Step) (at : Place) → header_answer bus request found ≡ Gives step at → From (Header bus) at
header_from bus request None step at gives = given_from (Header bus) MasterAbort step Nobody at gives tt
header_from bus request (Some bridge) step at gives = given_from (Header bus) (Read (header_word bridge (request.address % 2 ^ 8 / 4))) step (Header bus) at gives tt

completion_from : (board : Board) (read : Bool) (lane : BridgeLane) (older : List Carried) (item : Option Carried) (step : Step) (at : Place) → completion_answer board read lane older item ≡ Gives step at → From (Lane lane) at
completion_from board read lane older None step at gives = cc
completion_from board read lane older (Some (Post op)) step at gives = cc
completion_from board read lane older (Some (Ask op slot)) step at gives = cc
completion_from board read lane older (Some (Done op slot outcome)) step at gives =
    let P : Bool → Type 0 = λ b. cond b (Gives (Take outcome) (Lane lane)) (Retry Behind) ≡ Gives step at → From (Lane lane) at in
    (elim (list_all (completion_passes board read) older) as P [ true ↦ λ e. given_from (Lane lane) (Take outcome) step (Lane lane) at e tt | false ↦ λ e. cc ]) gives
completion_from board read lane older (Some Room) step at gives = cc
completion_from board read lane older (Some (Gone slot)) step at gives = cc

delayed_from : (board : Board) (read : Bool) (depth : ℕ) (lane : BridgeLane) (held : List Slot) (coming : List Carried) (own : Option Slot) (step : Step) (at : Place) → delayed_answer board read depth lane held coming own ≡ Gives step at → From (Lane lane) at
delayed_from board read depth lane held coming None step at gives =
    let P : Bool → Type 0 = λ b. cond b (Gives Latch (Lane lane)) (Retry NoSlot) ≡ Gives step at → From (Lane lane) at in
    (elim (nat_lt (length held) depth) as P [ true ↦ λ e. given_from (Lane lane) Latch step (Lane lane) at e tt | false ↦ λ e. cc ]) gives
delayed_from board read depth lane held coming (Some slot) step at gives =
    completion_from board read lane (before (is_done_for slot.number) coming) (find (is_done_for slot.number) coming) step at gives

lane_from : (board : Board) (world : World) (on : ℕ) (by : By) (o : OpId) (request : Request) (lane : BridgeLane) (found : Option Bridge) (step : Step) (at : Place) → lane_answer board world on by o request lane found ≡ Gives step at → From (Lane lane) at
lane_from board world on by o request lane None step at gives = given_from (Lane lane) MasterAbort step Nobody at gives tt
lane_from board world on by o request lane (Some bridge) step at gives =
    let one : Answer = posted_answer (world lane).owed bridge.posted lane in
    let own : Option Slot = find (is_own board on by o) (world lane).held in
    let other : Answer = delayed_answer board (is_read request.command) bridge.delayed lane (world lane).held (world (lane_back lane)).standing own in
    let P : Bool → Type 0 = λ b. cond b one other ≡ Gives step at → From (Lane lane) at in
    let Q : Bool → Type 0 = λ b. cond b (Gives Accept (Lane lane)) (Retry Full) ≡ Gives step at → From (Lane lane) at in
    (elim (is_posted request) as P [
      | true ↦ elim (nat_lt (world lane).owed bridge.posted) as Q [ true ↦ λ e. given_from (Lane lane) Accept step (Lane lane) at e tt | false ↦ λ e. cc ]
      | false ↦ delayed_from board (is_read request.command) bridge.delayed lane (world lane).held (world (lane_back lane)).standing own step at
    ]) gives

place_from : (board : Board) (h : List Event) (on : ℕ) (by : By) (o : OpId) (request : Request) (claimant : Place) (step : Step) (at : Place) → answer_by board (world_of board h) h on by o request claimant ≡ Gives step at → From claimant at
place_from board h on by o request (Target place) step at gives = target_from board h place request (slice_get board.targets place) step at gives
place_from board h on by o request (Header bus) step at gives = header_from bus request (bridge_to board bus) step at gives
place_from board h on by o request (Lane lane) step at gives = lane_from board (world_of board h) on by o request lane (bridge_to board lane.bus) step at gives
place_from board h on by o request Nobody step at gives = given_from Nobody MasterAbort step Nobody at gives tt

request_from : (board : Board) (h : List Event) (on : ℕ) (by : By) (o : OpId) (request : Option Request) (step : Step) (place : ℕ) → answer_to board (world_of board h) h on by o request ≡ Gives step (Target place)
    → (agent : TargetAgent) × (slice_get board.targets place ≡ Some agent) × (agent.bus ≡ on)
request_from board h on by o None step place gives = cc
request_from board h on by o (Some request) step place gives =
    let rest : Request = without (through h o) request in
    target_on board on rest place (place_from board h on by o rest (claim board on rest) step (Target place) gives)

-- a target that answers is on the bus
pub answers_on : (board : Board) (h : List Event) (on : ℕ) (by : By) (o : OpId) (step : Step) (place : ℕ) → answer board h on by o ≡ Gives step (Target place)
    → (agent : TargetAgent) × (slice_get board.targets place ≡ Some agent) × (agent.bus ≡ on)
answers_on board h on by o step place gives = request_from board h on by o (request_of board o on) step place gives

-- it claims what is left of the request there
pub answers_claim : (board : Board) (h : List Event) (on : ℕ) (by : By) (o : OpId) (request : Request) (step : Step) (place : ℕ) → request_of board o on ≡ Some request → answer board h on by o ≡ Gives step (Target place)
    → claim board on (without (through h o) request) ≡ Target place
answers_claim board h on by o request step place requested gives =
    let rest : Request = without (through h o) request in
    let F : Option Request → Type 0 = λ found. answer_to board (world_of board h) h on by o found ≡ Gives step (Target place) in
    place_from board h on by o rest (claim board on rest) step (Target place) (subst F requested gives)
