-- Each act of a run counts what it takes from what is still to be counted.
use Rattle.std.proofs.Common.{◌≡◌, ℕ, ◌≤◌, Bool, true, false, cond, nat_lt, ◌==◌, List, ◌∷◌, length, Option, Some, None, is_some, refl, sym, ap, subst, ◌∙◌, eqb-true}
use Rattle.std.specs.List.{find, list_all, AllByRecursion}
use Rattle.std.proofs.lemmas.Bool.{and_parts}
use Rattle.list_facts.specs.Lists.{before}
use Rattle.list_facts.proofs.AnyLemmas.{any_some}
use Rattle.list_facts.proofs.EachLemmas.{Each-find}
use Rattle.list_facts.proofs.FindLemmas.{find_passes}
use Rattle.pci_command.specs.declared.request.Request.{Request}
use Rattle.pci_command.specs.declared.op_id.OpId.{OpId}
use Rattle.pci_command.specs.Command.{is_read}
use Rattle.board_model.specs.declared.bridge.Bridge.{Bridge}
use Rattle.board_model.specs.declared.bridge.Lane.{Lane as BridgeLane}
use Rattle.board_model.specs.declared.bridge.Place.{Place}
use Rattle.board_model.specs.declared.bridge.Place.TheVariants.{Target, Header, Lane, Nobody}
use Rattle.board_model.specs.declared.op.Op.{Op}
use Rattle.board_model.specs.declared.board.Board.{Board}
use Rattle.board_model.specs.Requests.{op_of, phases_of, request_on, request_of, is_posted}
use Rattle.board_model.specs.Claims.{claim}
use Rattle.board_model.specs.Ways.{Route, route_by, route_of, lane_back, start_of, end_of, is_lane}
use Rattle.board_model.specs.Valid.{has_bridge_to, IsValid}
use Rattle.board_model.proofs.Laws.{op_phases, op_formed}
use Rattle.board_model.specs.form_laws.Trees.{IsTree}
use Rattle.board_model.proofs.form_laws.Laws.{IsTree-valid, WayEnds-tree}
use Rattle.history_model.specs.declared.event.By.{By}
use Rattle.history_model.specs.declared.event.By.TheVariants.{Master, Lane as ByLane}
use Rattle.history_model.specs.declared.event.Step.{Step}
use Rattle.history_model.specs.declared.event.Step.TheVariants as steps
use Rattle.history_model.specs.declared.event.Event.{Event}
use Rattle.history_model.specs.declared.event.Event.TheVariants.{Act}
use Rattle.history_model.specs.declared.item.Answer.TheVariants.{Gives, Retry}
use Rattle.history_model.specs.declared.item.Carried.{Carried}
use Rattle.history_model.specs.declared.item.Carried.TheVariants.{Post, Ask, Done, Room, Gone}
use Rattle.history_model.specs.declared.item.Cause.TheVariants.{Full, NoSlot, Behind}
use Rattle.history_model.specs.declared.item.Slot.{Slot}
use Rattle.history_model.specs.Lanes.{empty_lane, is_of, is_done_for, item_ends, slot_taken}
use Rattle.history_model.specs.World.{World, is_own, slot_found, at_place, both, put, moved, world_of}
use Rattle.history_model.specs.Words.{through, phases_parted}
use Rattle.history_model.specs.Answers.{presents, presents_item, wants, answer_by, lane_answer, posted_answer, delayed_answer, completion_answer, completion_passes, bridge_to}
use Rattle.history_model.specs.Runs.{Run}
use Rattle.history_model.proofs.facts.AnswerLemmas.{Gives_at, answered_at}
use Rattle.law_lanes.specs.Slots.{IsHeldFor, DoneNamed}
use Rattle.law_lanes.specs.Depths.{DifferentNumbers}
use Rattle.law_lanes.proofs.Laws.{Slots-run, run_no_bridge, Quiet-empty, op_there, claim_starts, TakesItsOwn-run, WellFormed-numbers, WellFormed-single}
use Rattle.run_report.specs.way_counts.Plain.{IsSteady}
use Rattle.run_report.specs.way_counts.WayCounts.{Weight}
use Rattle.run_report.proofs.way_counts.AnswerLemmas.{IsLast, whole_answer, ends_there}
use Rattle.run_report.proofs.way_counts.StepLemmas.{Counts, master_last, lane_last, master_accept, lane_accept, latches, master_takes, lane_takes}

-- an operation that is there
pub some_of : {X : Type 0} (found : Option X) → is_some found ≡ true → (x : X) × (found ≡ Some x)
some_of None is = cc
some_of (Some x) is = (x, refl)

-- a lane answers at itself
posted_place : (owed depth : ℕ) (lane : BridgeLane) (step : Step) (place : Place) → posted_answer owed depth lane ≡ Gives step place → place ≡ Lane lane
posted_place owed depth lane step place gives =
    let P : Bool → Type 0 = λ b. cond b (Gives steps.Accept (Lane lane)) (Retry Full) ≡ Gives step place → place ≡ Lane lane in
    (elim (nat_lt owed depth) as P [ true ↦ λ e. cc | false ↦ λ e. cc ]) gives

completion_place : (board : Board) (read : Bool) (lane : BridgeLane) (older : List Carried) (item : Option Carried) (step : Step) (place : Place) → completion_answer board read lane older item ≡ Gives step place → place ≡ Lane lane
completion_place board read lane older None step place gives = cc
completion_place board read lane older (Some (Post op)) step place gives = cc
completion_place board read lane older (Some (Ask op slot)) step place gives = cc
completion_place board read lane older (Some (Done op slot outcome)) step place gives =
    let P : Bool → Type 0 = λ b. cond b (Gives (steps.Take outcome) (Lane lane)) (Retry Behind) ≡ Gives step place → place ≡ Lane lane in
    (elim (list_all (completion_passes board read) older) as P [ true ↦ λ e. cc | false ↦ λ e. cc ]) gives
completion_place board read lane older (Some Room) step place gives = cc
completion_place board read lane older (Some (Gone slot)) step place gives = cc

delayed_place : (board : Board) (depth : ℕ) (read : Bool) (lane : BridgeLane) (held : List Slot) (coming : List Carried) (own : Option Slot) (step : Step) (place : Place) → delayed_answer board read depth lane held coming own ≡ Gives step place → place ≡ Lane lane
delayed_place board depth read lane held coming None step place gives =
    let P : Bool → Type 0 = λ b. cond b (Gives steps.Latch (Lane lane)) (Retry NoSlot) ≡ Gives step place → place ≡ Lane lane in
    (elim (nat_lt (length held) depth) as P [ true ↦ λ e. cc | false ↦ λ e. cc ]) gives
delayed_place board depth read lane held coming (Some slot) step place gives = completion_place board read lane (before (is_done_for slot.number) coming) (find (is_done_for slot.number) coming) step place gives

-- what a lane presents stands there
presented_item : (board : Board) (on : ℕ) (older : List Carried) (found : Option Carried) → presents_item board on older found ≡ true → (item : Carried) × (found ≡ Some item)
presented_item board on older None presented = cc
presented_item board on older (Some item) presented = (item, refl)

module _ (board : Board) (valid : IsValid board) (steady : IsSteady board) (weight : Weight) (h : List Event) (on : ℕ) (by : By) (o : OpId) (step : Step) (place : Place) (run : Run board (Act on by o step place ∷ h)) (whole : through h o ≡ 0) where
  abbrev world : World
  world = world_of board h

  distinct : DifferentNumbers board
  distinct = WellFormed-numbers board valid.well_formed

  there : (op : Op) × (op_of board o ≡ Some op)
  there = some_of (op_of board o) (op_there board h on by o run.1 run.0.0)

  abbrev op : Op
  op = there.0

  few_phases : length (phases_of op) ≤ 8
  few_phases = (op_phases op (op_formed board o op valid.well_formed there.1)).to

  -- the lane that presents it has its item, and is of a bridge
  record Stands (k : BridgeLane) : Type 0 where
    item : Carried
    stands : find (is_of o) (world k).standing ≡ Some item
    bridge : Bridge
    is_bridge : bridge_to board k.bus ≡ Some bridge
    ends : end_of board k ≡ on

  stands_at : (k : BridgeLane) → wants board h on (ByLane k) o ≡ true → Stands k
  stands_at k wanted =
      let parts = and_parts (end_of board k == on) (presents board on o (world k).standing) wanted in
      let found = presented_item board on (before (is_of o) (world k).standing) (find (is_of o) (world k).standing) parts.1 in
      let P : Option Bridge → Type 0 = λ b. bridge_to board k.bus ≡ b → Stands k in
      (elim (bridge_to board k.bus) as P [
        | None ↦ λ none.
            let empty : world k ≡ empty_lane = Quiet-empty board h k (run_no_bridge board k.bus h none run.1) in
            let nothing : find (is_of o) (world k).standing ≡ None = ap (λ s. find (is_of o) s.standing) empty in
            absurd cc
        | Some bridge ↦ λ is. record { item = found.0; stands = found.1; bridge = bridge; is_bridge = is; ends = eqb-true (end_of board k) on parts.0 }
      ]) refl

  -- a lane that claims is of a bridge
  claimant_bridge : (lane : BridgeLane) → claim board on (request_on op on) ≡ Lane lane → (bridge : Bridge) × (bridge_to board lane.bus ≡ Some bridge)
  claimant_bridge lane claims =
      let ends = WayEnds-tree board op (IsTree-valid board valid) on in
      let first : route_of board op on ≡ route_by (λ l. route_of board op (end_of board l)) on (Lane lane) = ends.onwards ∙ ap (route_by (λ l. route_of board op (end_of board l)) on) claims in
      let each = subst (λ (r : Route). AllByRecursion (λ (l : BridgeLane). has_bridge_to board l.bus ≡ true) r.lanes) first ends.of_bridges in
      any_some (λ (b : Bridge). b.bus == lane.bus) board.bridges each.0

  -- the answer of the lane is its own
  lane_place : (lane : BridgeLane) → claim board on (request_on op on) ≡ Lane lane → place ≡ Lane lane
  lane_place lane claims =
      let bridge = claimant_bridge lane claims in
      let request : Request = request_on op on in
      let F : Place → Type 0 = λ p. answer_by board world h on by o request p ≡ Gives step place in
      let G : Option Bridge → Type 0 = λ b. lane_answer board world on by o request lane b ≡ Gives step place in
      let gives = subst G bridge.1 (subst F claims (whole_answer board steady h on by o op step place there.1 whole run.0.1)) in
      let own : Option Slot = find (is_own board on by o) (world lane).held in
      let one = posted_answer (world lane).owed bridge.0.posted lane in
      let other = delayed_answer board (is_read request.command) bridge.0.delayed lane (world lane).held (world (lane_back lane)).standing own in
      let P : Bool → Type 0 = λ b. cond b one other ≡ Gives step place → place ≡ Lane lane in
      (elim (is_posted request) as P [
        | true ↦ λ e. posted_place (world lane).owed bridge.0.posted lane step place e
        | false ↦ λ e. delayed_place board bridge.0.delayed (is_read request.command) lane (world lane).held (world (lane_back lane)).standing own step place e
      ]) gives

-- no part of a write but the last
last_whole : (step : Step) → IsLast step → phases_parted step ≡ 0
last_whole steps.Land last = refl
last_whole (steps.Part phases) last = absurd last
last_whole (steps.Read value) last = refl
last_whole steps.Accept last = absurd last
last_whole steps.Latch last = absurd last
last_whole (steps.Take outcome) last = absurd last
last_whole steps.Stall last = absurd last
last_whole steps.MasterAbort last = refl
last_whole steps.TargetAbort last = refl

-- what each act does
abbrev pub Acts : Board → Weight → List Event → ℕ → By → OpId → Step → Place → Type 0
Acts board weight h on by o step place = Counts board weight (world_of board h) on by o step (world_of board (Act on by o step place ∷ h)) × (phases_parted step ≡ 0)

act_last : (board : Board) (valid : IsValid board) (steady : IsSteady board) (weight : Weight) (h : List Event) (on : ℕ) (by : By) (o : OpId) (step : Step) (place : Place) (run : Run board (Act on by o step place ∷ h)) → through h o ≡ 0
    → (op : Op) → op_of board o ≡ Some op → length (phases_of op) ≤ 8 → is_lane (claim board on (request_on op on)) ≡ false → Acts board weight h on by o step place
act_last board valid steady weight h on Master o step place run whole op is_op short none =
    let last = ends_there board steady h on Master o op step place is_op short whole run.0.1 none in
    (master_last board (WellFormed-numbers board valid.well_formed) (IsTree-valid board valid) weight o op is_op (world_of board h) on step place none last, last_whole step last.is_last)
act_last board valid steady weight h on (ByLane k) o step place run whole op is_op short none =
    let last = ends_there board steady h on (ByLane k) o op step place is_op short whole run.0.1 none in
    let at = stands_at board valid steady weight h on (ByLane k) o step place run whole k run.0.0 in
    let passes : is_of o at.item ≡ true = find_passes (is_of o) (world_of board h k).standing at.item at.stands in
    (lane_last board (WellFormed-numbers board valid.well_formed) (IsTree-valid board valid) weight o op is_op (world_of board h) on k step place at.item at.bridge at.is_bridge at.stands passes at.ends none last, last_whole step last.is_last)

-- where a lane claims
module _ (board : Board) (valid : IsValid board) (steady : IsSteady board) (weight : Weight) (h : List Event) (on : ℕ) (o : OpId) (lane : BridgeLane) (whole : through h o ≡ 0)
    (op : Op) (is_op : op_of board o ≡ Some op) (claims : claim board on (request_on op on) ≡ Lane lane) (bridge : Bridge) (is_bridge : bridge_to board lane.bus ≡ Some bridge) where
  tree : IsTree board
  tree = IsTree-valid board valid

  apart : DifferentNumbers board
  apart = WellFormed-numbers board valid.well_formed

  starts : start_of board lane ≡ on
  starts = claim_starts board on (request_on op on) lane apart claims

  by_step : (by : By) (step : Step) (run : Run board (Act on by o step (Lane lane) ∷ h)) (request : Request) (owed : ℕ) (held : List Slot) (coming : List Carried) (own : Option Slot) → request ≡ request_on op on
      → Gives_at board bridge owed held coming request own step → Acts board weight h on by o step (Lane lane)
  by_step by steps.Land run request owed held coming own same gives = absurd gives
  by_step by (steps.Part phases) run request owed held coming own same gives = absurd gives
  by_step by (steps.Read value) run request owed held coming own same gives = absurd gives
  by_step Master steps.Accept run request owed held coming own same gives =
      let posted : is_posted (request_on op on) ≡ true = subst (λ r. is_posted r ≡ true) same gives.0 in
      (master_accept board apart tree weight o op is_op (world_of board h) on lane bridge is_bridge starts claims posted, refl)
  by_step (ByLane k) steps.Accept run request owed held coming own same gives =
      let posted : is_posted (request_on op on) ≡ true = subst (λ r. is_posted r ≡ true) same gives.0 in
      let at = stands_at board valid steady weight h on (ByLane k) o steps.Accept (Lane lane) run whole k run.0.0 in
      let passes : is_of o at.item ≡ true = find_passes (is_of o) (world_of board h k).standing at.item at.stands in
      (lane_accept board apart tree weight o op is_op (world_of board h) on lane bridge is_bridge starts claims k at.item at.bridge at.is_bridge at.stands passes at.ends posted, refl)
  by_step Master steps.Latch run request owed held coming own same gives =
      (latches board apart tree weight o op is_op (world_of board h) on lane bridge is_bridge starts claims Master, refl)
  by_step (ByLane k) steps.Latch run request owed held coming own same gives =
      (latches board apart tree weight o op is_op (world_of board h) on lane bridge is_bridge starts claims (ByLane k), refl)
  by_step Master (steps.Take outcome) run request owed held coming own same gives =
      let W : World = world_of board h in
      let delayed : is_posted (request_on op on) ≡ false = subst (λ r. is_posted r ≡ false) same gives.0 in
      let its = TakesItsOwn-run board h on Master o outcome lane apart (WellFormed-single board valid.well_formed) run in
      let named : IsHeldFor (W lane).held its.slot.number o = Each-find (DoneNamed (W lane).held) (is_done_for its.slot.number) (W (lane_back lane)).standing (Done o its.slot.number outcome) (Slots-run board h lane run.1).dones_standing its.stands in
      let moves : at_place board on Master o (steps.Take outcome) (Lane lane) W ≡ moved (slot_taken its.slot.number) lane W = ap (λ found. put W lane (slot_found found (both W lane))) its.is_own_slot in
      let C : World → Type 0 = λ w. Counts board weight W on Master o (steps.Take outcome) w in
      (subst C (sym moves) (master_takes board apart tree weight o op is_op W on lane bridge is_bridge starts claims its.slot.number outcome named its.stands delayed), refl)
  by_step (ByLane k) (steps.Take outcome) run request owed held coming own same gives =
      let W : World = world_of board h in
      let delayed : is_posted (request_on op on) ≡ false = subst (λ r. is_posted r ≡ false) same gives.0 in
      let at = stands_at board valid steady weight h on (ByLane k) o (steps.Take outcome) (Lane lane) run whole k run.0.0 in
      let passes : is_of o at.item ≡ true = find_passes (is_of o) (W k).standing at.item at.stands in
      let its = TakesItsOwn-run board h on (ByLane k) o outcome lane apart (WellFormed-single board valid.well_formed) run in
      let named : IsHeldFor (W lane).held its.slot.number o = Each-find (DoneNamed (W lane).held) (is_done_for its.slot.number) (W (lane_back lane)).standing (Done o its.slot.number outcome) (Slots-run board h lane run.1).dones_standing its.stands in
      let moves : at_place board on (ByLane k) o (steps.Take outcome) (Lane lane) W ≡ moved (slot_taken its.slot.number) lane W = ap (λ found. put W lane (slot_found found (both W lane))) its.is_own_slot in
      let C : World → Type 0 = λ w. Counts board weight W on (ByLane k) o (steps.Take outcome) (moved (item_ends o outcome) k w) in
      (subst C (sym moves) (lane_takes board apart tree weight o op is_op W on lane bridge is_bridge starts claims its.slot.number outcome named its.stands delayed k at.item at.bridge at.is_bridge at.stands passes at.ends), refl)
  by_step by steps.Stall run request owed held coming own same gives = absurd gives
  by_step by steps.MasterAbort run request owed held coming own same gives = absurd gives
  by_step by steps.TargetAbort run request owed held coming own same gives = absurd gives

act_lane : (board : Board) (valid : IsValid board) (steady : IsSteady board) (weight : Weight) (h : List Event) (on : ℕ) (by : By) (o : OpId) (step : Step) (lane : BridgeLane) (run : Run board (Act on by o step (Lane lane) ∷ h)) → through h o ≡ 0
    → (op : Op) → op_of board o ≡ Some op → claim board on (request_on op on) ≡ Lane lane → Acts board weight h on by o step (Lane lane)
act_lane board valid steady weight h on by o step lane run whole op is_op claims =
    let at = answered_at board h on by o step lane run.0.1 in
    let requested : request_of board o on ≡ Some (request_on op on) = rw is_op refl in
    let same : at.request ≡ request_on op on = let is = at.is_request in cc in
    by_step board valid steady weight h on o lane whole op is_op claims at.bridge at.is_bridge by step run at.request _ _ _ _ same at.gives

-- by who claims
by_claim : (board : Board) (valid : IsValid board) (steady : IsSteady board) (weight : Weight) (h : List Event) (on : ℕ) (by : By) (o : OpId) (step : Step) (place : Place) (run : Run board (Act on by o step place ∷ h)) → through h o ≡ 0
    → (op : Op) → op_of board o ≡ Some op → length (phases_of op) ≤ 8 → ((lane : BridgeLane) → claim board on (request_on op on) ≡ Lane lane → place ≡ Lane lane) → (claimant : Place) → claim board on (request_on op on) ≡ claimant → Acts board weight h on by o step place
by_claim board valid steady weight h on by o step place run whole op is_op short its (Target target) claims = act_last board valid steady weight h on by o step place run whole op is_op short (ap is_lane claims)
by_claim board valid steady weight h on by o step place run whole op is_op short its (Header bus) claims = act_last board valid steady weight h on by o step place run whole op is_op short (ap is_lane claims)
by_claim board valid steady weight h on by o step place run whole op is_op short its (Lane lane) claims =
    let P : Place → Type 0 = λ p. Run board (Act on by o step p ∷ h) → Acts board weight h on by o step p in
    (subst P (sym (its lane claims)) (λ there. act_lane board valid steady weight h on by o step lane there whole op is_op claims)) run
by_claim board valid steady weight h on by o step place run whole op is_op short its Nobody claims = act_last board valid steady weight h on by o step place run whole op is_op short (ap is_lane claims)

-- so each act
pub act_counts : (board : Board) (valid : IsValid board) (steady : IsSteady board) (weight : Weight) (h : List Event) (on : ℕ) (by : By) (o : OpId) (step : Step) (place : Place) (run : Run board (Act on by o step place ∷ h)) → through h o ≡ 0 → Acts board weight h on by o step place
act_counts board valid steady weight h on by o step place run whole =
    let found = there board valid steady weight h on by o step place run whole in
    by_claim board valid steady weight h on by o step place run whole found.0 found.1 (few_phases board valid steady weight h on by o step place run whole) (lane_place board valid steady weight h on by o step place run whole) (claim board on (request_on found.0 on)) refl
