-- Where an initiator ends an operation, no slot is held for it.
use Rattle.std.proofs.Common.{◌≡◌, ℕ, ◌+◌, ◌≤◌, Bool, true, false, ◌&&◌, cond, is_some, List, Option, Some, None, refl, sym, ap, subst, ◌∙◌, arith, slice_get, ◌*◌}
use Rattle.std.specs.List.{find, list_all, AllByRecursion}
use Rattle.std.proofs.lemmas.Bool.{eqb-true}
use Rattle.std.proofs.lemmas.Bool.Decides.{nat_tests}
use Rattle.list_facts.specs.Lists.{less, total, before}
use Rattle.list_facts.proofs.TotalLemmas.{found, total-less}
use Rattle.list_facts.proofs.FindLemmas.{find_passes}
use Rattle.list_facts.proofs.EachLemmas.{Each-weaker, Each-both, Each-find, Each-within}
use Rattle.pci_command.specs.declared.request.Request.{Request}
use Rattle.pci_command.specs.declared.op_id.OpId.{OpId}
use Rattle.pci_command.specs.declared.op_id.Outcome.{Outcome}
use Rattle.pci_command.specs.Same.{same_op}
use Rattle.board_model.specs.declared.bridge.Bridge.{Bridge}
use Rattle.board_model.specs.declared.bridge.Lane.{Lane as BridgeLane}
use Rattle.board_model.specs.declared.bridge.Place.{Place}
use Rattle.board_model.specs.declared.bridge.Place.TheVariants.{Lane}
use Rattle.board_model.specs.declared.board.Board.{Board}
use Rattle.board_model.specs.Requests.{request_of, is_posted, same_requests}
use Rattle.board_model.specs.Claims.{claim, claim_in_space}
use Rattle.board_model.specs.Ways.{end_of, start_of, lane_back}
use Rattle.history_model.specs.declared.event.By.{By}
use Rattle.history_model.specs.declared.event.By.TheVariants.{Master, Lane as ByLane}
use Rattle.history_model.specs.declared.event.Step.{Step}
use Rattle.history_model.specs.declared.event.Step.TheVariants.{Take}
use Rattle.history_model.specs.declared.event.Event.{Event}
use Rattle.history_model.specs.declared.item.Carried.{Carried}
use Rattle.history_model.specs.declared.item.Carried.TheVariants.{Post, Ask, Done, Room, Gone}
use Rattle.history_model.specs.declared.item.Slot.{Slot}
use Rattle.history_model.specs.declared.item.Answer.TheVariants.{Gives, Retry}
use Rattle.history_model.specs.Lanes.{LaneState, has_number, is_done_for, empty_lane}
use Rattle.history_model.specs.World.{World, same_initiator, is_own, world_of}
use Rattle.history_model.specs.Answers.{is_on, wants, answer, bridge_to, completion_passes, posted_answer, delayed_answer, completion_answer, lane_answer, answer_by, answer_to}
use Rattle.history_model.specs.Runs.{Run}
use Rattle.law_lanes.specs.Owners.{own_count}
use Rattle.pci_command.specs.Command.{is_read, space_of}
use Rattle.board_model.specs.declared.agents.Master.{Master as MasterAgent}
use Rattle.history_model.specs.declared.item.Cause.TheVariants.{Behind}
use Rattle.history_model.specs.Words.{through, without}
use Rattle.history_model.specs.declared.item.Answer.{Answer}
use Rattle.law_lanes.specs.Slots.{hit, slot_weight}
use Rattle.law_lanes.specs.Depths.{DifferentNumbers}
use Rattle.law_lanes.specs.Phases.{DelayedAreSingle}
use Rattle.law_lanes.specs.Latched.{IsAt, Latched}
use Rattle.history_model.proofs.facts.RequestLemmas.{same_op_true}
use Rattle.history_model.proofs.facts.BridgeLemmas.{same_lane_true}
use Rattle.history_model.proofs.facts.EqualLemmas.{same_requests-self}
use Rattle.law_lanes.proofs.OneItemLemmas.{Each-found_itself}
use Rattle.law_lanes.proofs.PartLemmas.{delayed-not_parted}
use Rattle.law_lanes.proofs.LatchedLemmas.{wants-at, Latched-run}
use Rattle.law_lanes.proofs.QuietLemmas.{Quiet-empty, run_no_bridge}
use Rattle.list_facts.proofs.FoundLemmas.{Each-found}

-- the slot is held for this initiator and this operation
abbrev pub is_for : By → OpId → Slot → Bool
is_for by o slot = same_initiator slot.by slot.op by o && same_op slot.op o

abbrev pub NoneFor : By → OpId → List Slot → Type 0
NoneFor by o held = AllByRecursion (λ (slot : Slot). is_for by o slot ≡ false) held

is_for-parts : (by : By) (o : OpId) (slot : Slot) → is_for by o slot ≡ true → (same_initiator slot.by slot.op by o ≡ true) × (slot.op ≡ o)
is_for-parts by o slot is =
    let P : Bool → Type 0 = λ b. same_initiator slot.by slot.op by o ≡ b → (b && same_op slot.op o) ≡ true → (same_initiator slot.by slot.op by o ≡ true) × (slot.op ≡ o) in
    (elim (same_initiator slot.by slot.op by o) as P [ true ↦ λ same e. (same, same_op_true slot.op o e) | false ↦ λ _ e. cc ]) refl is

-- one initiator is on one bus
on_bus : (a b : ℕ) (master : Option MasterAgent) → is_on a master ≡ true → is_on b master ≡ true → a ≡ b
on_bus a b None first second = cc
on_bus a b (Some master) first second = grind (arith, nat_tests)

same_bus : (board : Board) (a b : ℕ) (by : By) (p : OpId) (other : By) (q : OpId) → IsAt board a by p → IsAt board b other q → same_initiator by p other q ≡ true → a ≡ b
same_bus board a b Master p Master q first second same =
    let masters : p.master ≡ q.master = eqb-true p.master q.master same in
    let F : ℕ → Type 0 = λ m. is_on a (slice_get board.masters m) ≡ true in
    on_bus a b (slice_get board.masters q.master) (subst F masters first) second
same_bus board a b Master p (ByLane l) q first second same = cc
same_bus board a b (ByLane k) p Master q first second same = cc
same_bus board a b (ByLane k) p (ByLane l) q first second same =
    let one : k ≡ l = same_lane_true k l same in
    sym first ∙ ap (end_of board) one ∙ second

-- a completion is taken, or there is no event
completion_takes : (board : Board) (read : Bool) (at : BridgeLane) (older : List Carried) (item : Option Carried) (step : Step) (place : Place) → completion_answer board read at older item ≡ Gives step place → (outcome : Outcome) × (step ≡ Take outcome) × (place ≡ Lane at)
completion_takes board read at older None step place gives = cc
completion_takes board read at older (Some (Post op)) step place gives = cc
completion_takes board read at older (Some (Ask op slot)) step place gives = cc
completion_takes board read at older (Some (Done op slot outcome)) step place gives =
    let P : Bool → Type 0 = λ b. cond b (Gives (Take outcome) (Lane at)) (Retry Behind) ≡ Gives step place → (outcome : Outcome) × (step ≡ Take outcome) × (place ≡ Lane at) in
    (elim (list_all (completion_passes board read) older) as P [ true ↦ λ e. (outcome, cc, cc) | false ↦ λ e. cc ]) gives
completion_takes board read at older (Some Room) step place gives = cc
completion_takes board read at older (Some (Gone slot)) step place gives = cc

-- who has an own slot at the lane that claims, takes its completion
own_takes : (board : Board) (h : List Event) (on : ℕ) (by : By) (o : OpId) (lane : BridgeLane) (request : Request) (bridge : Bridge) (own : Slot) (step : Step) (place : Place)
    → request_of board o on ≡ Some request → is_posted request ≡ false → through h o ≡ 0 → claim board on request ≡ Lane lane → bridge_to board lane.bus ≡ Some bridge
    → find (is_own board on by o) (world_of board h lane).held ≡ Some own → answer board h on by o ≡ Gives step place
    → (outcome : Outcome) × (step ≡ Take outcome) × (place ≡ Lane lane)
own_takes board h on by o lane request bridge own step place is_request delayed none claims is_bridge is_own_slot gives =
    let world : World = world_of board h in
    let rest : Request = without (through h o) request in
    let whole : request.address + 4 * through h o ≡ request.address = omega arith in
    let claims_rest : claim board on rest ≡ Lane lane = ap (claim_in_space board on (space_of request.command)) whole ∙ claims in
    let coming : List Carried = (world (lane_back lane)).standing in
    let posted : Answer = posted_answer (world lane).owed bridge.posted lane in
    let other : Option Slot → Answer = λ found. delayed_answer board (is_read request.command) bridge.delayed lane (world lane).held coming found in
    let first : answer board h on by o ≡ answer_by board world h on by o rest (Lane lane) = ap (answer_to board world h on by o) is_request ∙ ap (answer_by board world h on by o rest) claims_rest in
    let second : answer_by board world h on by o rest (Lane lane) ≡ other (Some own) =
    ap (lane_answer board world on by o rest lane) is_bridge ∙ ap (λ (b : Bool). cond b posted (other (find (is_own board on by o) (world lane).held))) delayed ∙ ap other is_own_slot in
    completion_takes board (is_read request.command) lane (before (is_done_for own.number) coming) (find (is_done_for own.number) coming) step place (sym (first ∙ second) ∙ gives)

some_of : {X : Type 0} (found : Option X) → is_some found ≡ true → (x : X) × (found ≡ Some x)
some_of None is = cc
some_of (Some x) is = (x, refl)

-- a slot for the initiator and the operation of an event: the event takes its completion, at its lane
slot_takes : (board : Board) (h : List Event) (on : ℕ) (by : By) (o : OpId) (lane : BridgeLane) (bridge : Bridge) (step : Step) (place : Place) (slot : Slot)
    → IsAt board on by o → ((request : Request) → request_of board o on ≡ Some request → is_posted request ≡ false → through h o ≡ 0) → bridge_to board lane.bus ≡ Some bridge
    → answer board h on by o ≡ Gives step place
    → Latched board lane slot → (is_own board on by o slot ≡ true → is_some (find (is_own board on by o) (world_of board h lane).held) ≡ true) → is_for by o slot ≡ true
    → (outcome : Outcome) × (step ≡ Take outcome) × (place ≡ Lane lane)
slot_takes board h on by o lane bridge step place slot at whole is_bridge gives latched found is =
    let parts = is_for-parts by o slot is in
    let bus : start_of board lane ≡ on = same_bus board (start_of board lane) on slot.by slot.op by o latched.initiator at parts.0 in
    let F : OpId → Type 0 = λ p. request_of board p (start_of board lane) ≡ Some latched.request in
    let G : ℕ → Type 0 = λ b. request_of board o b ≡ Some latched.request in
    let is_request : request_of board o on ≡ Some latched.request = subst G bus (subst F parts.1 latched.is_request) in
    let C : ℕ → Type 0 = λ b. claim board b latched.request ≡ Lane lane in
    let self : same_requests board on o o ≡ true = same_requests-self board on o latched.request is_request in
    let S : OpId → Type 0 = λ p. same_requests board on p o ≡ true in
    let requests : same_requests board on slot.op o ≡ true = subst S (sym parts.1) self in
    let initiators = parts.0 in
    let own : is_own board on by o slot ≡ true = rw initiators requests in
    let some = some_of (find (is_own board on by o) (world_of board h lane).held) (found own) in
    own_takes board h on by o lane latched.request bridge some.0 step place is_request latched.delayed (whole latched.request is_request latched.delayed) (subst C bus latched.claims) is_bridge some.1 gives

-- at a lane where no completion is taken, no slot is held for the initiator and the operation
pub lane_none_for : (board : Board) (h : List Event) (on : ℕ) (by : By) (o : OpId) (lane : BridgeLane) (step : Step) (place : Place)
    → DifferentNumbers board → DelayedAreSingle board → Run board h → wants board h on by o ≡ true → answer board h on by o ≡ Gives step place
    → ((outcome : Outcome) → step ≡ Take outcome → place ≡ Lane lane → ⊥) → NoneFor by o (world_of board h lane).held
lane_none_for board h on by o lane step place distinct single run wanted gives other =
    let held : List Slot = (world_of board h lane).held in
    let P : Option Bridge → Type 0 = λ found. bridge_to board lane.bus ≡ found → NoneFor by o held in
    (elim (bridge_to board lane.bus) as P [
      | None ↦ λ none.
          let empty : world_of board h lane ≡ empty_lane = Quiet-empty board h lane (run_no_bridge board lane.bus h none run) in
          let F : LaneState → Type 0 = λ state. NoneFor by o state.held in
          subst F (sym empty) tt
      | Some bridge ↦ λ is_bridge.
          let own : Slot → Bool = is_own board on by o in
          let A : Slot → Type 0 = Latched board lane in
          let B : Slot → Type 0 = λ slot. own slot ≡ true → is_some (find own held) ≡ true in
          let each : (slot : Slot) → A slot × B slot → is_for by o slot ≡ false =
          λ slot both.
          let R : Bool → Type 0 = λ b. is_for by o slot ≡ b → is_for by o slot ≡ false in
          (elim (is_for by o slot) as R [
            | true ↦ λ is.
                let takes = slot_takes board h on by o lane bridge step place slot (wants-at board h on by o wanted)
                (λ request is_request delayed. delayed-not_parted board h o on request single run is_request delayed) is_bridge gives both.0 both.1 is in
                absurd (other takes.0 takes.1 takes.2)
            | false ↦ λ is. is
          ]) refl in
          Each-weaker (λ (slot : Slot). A slot × B slot) (λ (slot : Slot). is_for by o slot ≡ false) each held (Each-both A B held (Latched-run board h lane distinct single run) (Each-found own held))
    ]) refl

-- after the completion was taken, no slot of the lane is
pub taken_none_for : (board : Board) (on : ℕ) (by : By) (o : OpId) (own : Slot) (held : List Slot) → same_requests board on o o ≡ true
    → ((number : ℕ) → total (slot_weight (hit number)) held ≤ 1) → total (own_count board on by o) held ≤ 1 → find (is_own board on by o) held ≡ Some own
    → NoneFor by o (less (has_number own.number) held)
taken_none_for board on by o own held self once one is_own_slot =
    let count : Slot → ℕ = own_count board on by o in
    let left : List Slot = less (has_number own.number) held in
    let F : Slot → Type 0 = λ slot. find (has_number slot.number) held ≡ Some slot in
    let itself : find (has_number own.number) held ≡ Some own = Each-find F (is_own board on by o) held own (Each-found_itself held once) is_own_slot in
    let passes : is_own board on by o own ≡ true = find_passes (is_own board on by o) held own is_own_slot in
    let counted : count own ≡ 1 = ap (λ (b : Bool). cond b 1 0) passes in
    let gone : found count (find (has_number own.number) held) ≡ 1 = ap (found count) itself ∙ counted in
    let none : total count left ≡ 0 = omega (arith, total-less count (has_number own.number) held) in
    let P : Slot → Type 0 = λ slot. (weight : Slot → ℕ) → weight slot ≤ total weight left in
    let each : (slot : Slot) → P slot → is_for by o slot ≡ false =
    λ slot within.
    let R : Bool → Type 0 = λ b. is_for by o slot ≡ b → is_for by o slot ≡ false in
    (elim (is_for by o slot) as R [
      | true ↦ λ is.
          let parts = is_for-parts by o slot is in
          let S : OpId → Type 0 = λ p. same_requests board on p o ≡ true in
          let requests : same_requests board on slot.op o ≡ true = subst S (sym parts.1) self in
          let initiators = parts.0 in
          let owned : is_own board on by o slot ≡ true = rw initiators requests in
          let counts : count slot ≡ 1 = ap (λ (b : Bool). cond b 1 0) owned in
          absurd (omega (arith, within count))
      | false ↦ λ is. is
    ]) refl in
    Each-weaker P (λ (slot : Slot). is_for by o slot ≡ false) each left (Each-within left)
