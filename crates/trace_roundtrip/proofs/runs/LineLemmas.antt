-- Each event of a run has a line in a trace.
use Rattle.std.proofs.Common.{◌≡◌, ℕ, ◌==◌, Bool, true, false, ◌&&◌, nat_le, List, [], ◌∷◌, Option, Some, None, is_some, refl, sym, subst, slice_get, reverse, All}
use Rattle.std.specs.List.{AllByRecursion}
use Rattle.std.proofs.lemmas.Bool.{and_parts, and_from, eqb-true}
use Rattle.std.proofs.lemmas.List.{reverse-reverse}
use Rattle.std.proofs.lemmas.Grind.{reverse_onto}
use Rattle.std.proofs.lemmas.List.Elements.{All-from_recursion}
use Rattle.list_facts.proofs.EachLemmas.{Each-push}
use Rattle.list_facts.proofs.TestLemmas.{list_all-get}
use Rattle.pci_command.specs.declared.op_id.OpId.{OpId}
use Rattle.board_model.specs.declared.bridge.Bridge.{Bridge}
use Rattle.board_model.specs.declared.bridge.Lane.{Lane as BridgeLane}
use Rattle.board_model.specs.declared.bridge.Place.{Place}
use Rattle.board_model.specs.declared.bridge.Place.TheVariants.{Target, Header, Lane, Nobody}
use Rattle.board_model.specs.declared.board.Board.{Board}
use Rattle.board_model.specs.Requests.{op_of}
use Rattle.board_model.specs.Ways.{end_of, is_lane}
use Rattle.board_model.specs.WellFormed.{is_well_formed_target, is_well_formed}
use Rattle.board_model.specs.Valid.{has_bridge_to, is_bus, lacks_a_bus}
use Rattle.board_model.proofs.Laws.{WellFormed-parts, Target-parts, Within-from}
use Rattle.history_model.specs.declared.event.By.{By}
use Rattle.history_model.specs.declared.event.By.TheVariants.{Master, Lane as ByLane}
use Rattle.history_model.specs.declared.event.Mark.{Mark}
use Rattle.history_model.specs.declared.event.Step.{Step}
use Rattle.history_model.specs.declared.event.Step.TheVariants.{Land, Part, Read, Accept, Latch, Take, Stall, MasterAbort, TargetAbort}
use Rattle.history_model.specs.declared.event.Event.{Event}
use Rattle.history_model.specs.declared.event.Event.TheVariants.{Act, Arrive}
use Rattle.history_model.specs.Lanes.{LaneState, empty_lane}
use Rattle.history_model.specs.World.{world_of}
use Rattle.history_model.specs.Program.{turn_of}
use Rattle.history_model.specs.Answers.{is_on, is_turn, presents, wants, bridge_to}
use Rattle.history_model.specs.Runs.{mark_of_first, next_mark, Allowed, Run, history_of}
use Rattle.trace_text.specs.Events.{has_initiator, has_place, is_target, is_completion, is_step_at, HasLine}
use Rattle.law_lanes.proofs.Laws.{Quiet-empty, run_no_bridge, op_there}
use Rattle.trace_roundtrip.proofs.runs.ToldLemmas.{IsBurst, IsThere, Suits}
use Rattle.trace_roundtrip.proofs.runs.SaidLemmas.{run_told, WorldSays-run}
use Rattle.trace_roundtrip.proofs.runs.BusLemmas.{bridge_is_there, target_is_there, master_is_on, end_is_bus}

-- so a part has one to eight data phases
burst_within : (board : Board) (phases : ℕ) → is_well_formed board ≡ true → IsBurst board phases → (nat_le 1 phases && nat_le phases 8) ≡ true
burst_within board phases well burst =
    let here = list_all-get is_well_formed_target board.targets burst.place burst.target (WellFormed-parts board well).targets burst.is_there in
    subst (λ n. (nat_le 1 n && nat_le n 8) ≡ true) (sym burst.is_burst) (Within-from 1 8 burst.target.burst (Target-parts burst.target here).burst)

-- a place that is on the board has a word in a line
place_there : (board : Board) (place : Place) → IsThere board place → has_place board place ≡ true
place_there board (Target index) there = target_is_there board index there.0 there.1
place_there board (Header bus) there = bridge_is_there board bus there.0 there.1
place_there board (Lane lane) there = bridge_is_there board lane.bus there.0 there.1
place_there board Nobody there = refl

-- a step that suits its place is one of those that happen there
step_there : (board : Board) (step : Step) (place : Place) → is_well_formed board ≡ true → Suits board step place → is_step_at step place ≡ true
step_there board Land place well suits = suits
step_there board (Part phases) place well suits = and_from (is_target place) (nat_le 1 phases && nat_le phases 8) suits.0 (burst_within board phases well suits.1)
step_there board (Read value) place well suits = suits
step_there board Accept place well suits = suits
step_there board Latch place well suits = suits
step_there board (Take outcome) place well suits = and_from (is_lane place) (is_completion outcome) suits.0 suits.1
step_there board Stall place well suits = suits
step_there board MasterAbort place well suits = suits
step_there board TargetAbort place well suits = suits

-- the bridge of a lane is there
record HasBridge (board : Board) (lane : BridgeLane) : Type 0 where
  bridge : Bridge
  is_bridge : bridge_to board lane.bus ≡ Some bridge

-- nothing is on a lane of no bridge: where something is, the bridge is there
bridge_of : (board : Board) (h : List Event) (lane : BridgeLane) → Run board h → (world_of board h lane ≡ empty_lane → ⊥) → HasBridge board lane
bridge_of board h lane run some =
    let P : Option Bridge → Type 0 = λ found. bridge_to board lane.bus ≡ found → HasBridge board lane in
    (elim (bridge_to board lane.bus) as P [
      | None ↦ λ none. absurd (some (Quiet-empty board h lane (run_no_bridge board lane.bus h none run)))
      | Some bridge ↦ λ is. record { bridge = bridge; is_bridge = is }
    ]) refl

-- the initiator is on a bus of the board and is there
record Presented (board : Board) (on : ℕ) (by : By) : Type 0 where
  is_on_bus : is_bus board on ≡ true
  is_initiator : has_initiator board by ≡ true

-- where a lane presents an operation
lane_presents : (board : Board) (h : List Event) (on : ℕ) (lane : BridgeLane) (o : OpId) → lacks_a_bus board ≡ false → Run board h
    → end_of board lane ≡ on → presents board on o (world_of board h lane).standing ≡ true → Presented board on (ByLane lane)
lane_presents board h on lane o none run ends presented =
    let F : LaneState → Type 0 = λ state. presents board on o state.standing ≡ true in
    let has : HasBridge board lane = bridge_of board h lane run (λ empty. let nothing : F empty_lane = subst F empty presented in cc) in
    record {
      is_on_bus = subst (λ bus. is_bus board bus ≡ true) ends (end_is_bus board lane has.bridge none has.is_bridge);
      is_initiator = bridge_is_there board lane.bus has.bridge has.is_bridge;
    }

-- where an initiator presents an operation
wanted_presents : (board : Board) (h : List Event) (on : ℕ) (by : By) (o : OpId) → lacks_a_bus board ≡ false → Run board h → wants board h on by o ≡ true → Presented board on by
wanted_presents board h on Master o none run wanted =
    let there : Bool = is_on on (slice_get board.masters o.master) in
    let turn : Bool = is_turn o (turn_of board h o.master) in
    record { is_on_bus = master_is_on board on o.master none (and_parts there turn wanted).0; is_initiator = refl }
wanted_presents board h on (ByLane lane) o none run wanted =
    let ends : Bool = end_of board lane == on in
    let presented : Bool = presents board on o (world_of board h lane).standing in
    lane_presents board h on lane o none run (eqb-true (end_of board lane) on (and_parts ends presented wanted).0) (and_parts ends presented wanted).1

-- an arrival has a lane of a bridge
arrival_line : (board : Board) (h : List Event) (lane : BridgeLane) (mark : Mark) → Run board h → next_mark board h lane ≡ Some mark → has_bridge_to board lane.bus ≡ true
arrival_line board h lane mark run next =
    let F : LaneState → Type 0 = λ state. mark_of_first board lane state state.flight ≡ Some mark in
    let has : HasBridge board lane = bridge_of board h lane run (λ empty. let nothing : F empty_lane = subst F empty next in cc) in
    bridge_is_there board lane.bus has.bridge has.is_bridge

-- an event of a run has a line
event_line : (board : Board) (h : List Event) (e : Event) → is_well_formed board ≡ true → lacks_a_bus board ≡ false → Run board h → Allowed board h e → HasLine board e
event_line board h (Act on by o step place) well none run allowed =
    let who = wanted_presents board h on by o none run allowed.0 in
    let told = run_told board h on by o step place (WorldSays-run board h run) allowed.1 in
    let rest : Bool = has_place board place && is_step_at step place in
    let named : Bool = is_some (op_of board o) && rest in
    and_from (is_bus board on) (has_initiator board by && named) who.is_on_bus
    (and_from (has_initiator board by) named who.is_initiator
    (and_from (is_some (op_of board o)) rest (op_there board h on by o run allowed.0)
    (and_from (has_place board place) (is_step_at step place) (place_there board place told.0) (step_there board step place well told.1))))
event_line board h (Arrive lane mark) well none run allowed = arrival_line board h lane mark run allowed

-- each event of a run has one
pub HasLine-run : (board : Board) (h : List Event) → is_well_formed board ≡ true → lacks_a_bus board ≡ false → Run board h → AllByRecursion (HasLine board) h
HasLine-run board [] well none run = tt
HasLine-run board (e ∷ h) well none run = (event_line board h e well none run.1 run.0, HasLine-run board h well none run.1)

-- what holds of each element holds of each the other way round
Each-reverse : {X : Type 0} (P : X → Type 0) (xs : List X) → AllByRecursion P xs → AllByRecursion P (reverse xs)
Each-reverse P [] each = tt
Each-reverse P (x ∷ xs) each = subst (AllByRecursion P) (sym (reverse_onto xs x [])) (Each-push P (reverse xs) x (Each-reverse P xs each.1) each.0)

-- and so in the order of a trace
pub HasLine-trace : (board : Board) (events : List Event) → AllByRecursion (HasLine board) (history_of events) → All (HasLine board) events
HasLine-trace board events each =
    let turned = Each-reverse (HasLine board) (reverse events) each in
    All-from_recursion (HasLine board) events (subst (AllByRecursion (HasLine board)) (reverse-reverse events) turned)
