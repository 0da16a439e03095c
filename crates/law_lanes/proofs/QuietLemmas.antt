-- Nothing is on the lanes of a bridge that nothing entered.
use Rattle.std.proofs.Common.{◌≡◌, ℕ, Bool, true, false, ◌||◌, List, [], ◌∷◌, Option, Some, None, refl, ap, ◌∙◌, arith}
use Rattle.std.specs.List.{list_any}
use Rattle.std.proofs.lemmas.Bool.Decides.{nat_tests}
use Rattle.pci_command.specs.declared.op_id.OpId.{OpId}
use Rattle.pci_command.specs.declared.op_id.Outcome.{Outcome}
use Rattle.board_model.specs.declared.bridge.Lane.{Lane as BridgeLane}
use Rattle.board_model.specs.declared.bridge.Place.{Place}
use Rattle.board_model.specs.declared.bridge.Place.TheVariants.{Target, Header, Lane, Nobody}
use Rattle.board_model.specs.declared.board.Board.{Board}
use Rattle.history_model.specs.declared.event.By.{By}
use Rattle.history_model.specs.declared.event.By.TheVariants.{Master, Lane as ByLane}
use Rattle.history_model.specs.declared.event.Step.{Step}
use Rattle.history_model.specs.declared.event.Step.TheVariants.{Land, Part, Read, Accept, Latch, Take, Stall, MasterAbort, TargetAbort}
use Rattle.history_model.specs.declared.event.Event.{Event}
use Rattle.history_model.specs.declared.event.Event.TheVariants.{Act, Arrive}
use Rattle.history_model.specs.declared.item.Answer.TheVariants.{Gives}
use Rattle.history_model.specs.Lanes.{Both, empty_lane, item_ends, arrives}
use Rattle.history_model.specs.World.{World, both, moved, enters, at_place, lane_outcome, leaves, at_initiator, after, world_of}
use Rattle.history_model.specs.Answers.{answer, bridge_to}
use Rattle.history_model.specs.Runs.{Allowed, Run}
use Rattle.law_lanes.specs.Quiet.{is_lane_of, enters_by, enters_at}
use Rattle.history_model.proofs.facts.BridgeLemmas.{flip, moved_keeps}
use Rattle.history_model.proofs.facts.AnswerLemmas.{AtLane, answered_at}

empty_pair : Both
empty_pair = record { here = empty_lane; back = empty_lane }

-- both lanes of the bridge are empty
abbrev IsQuiet : ℕ → BridgeLane → Both → Type 0
IsQuiet bus lane x = lane.bus ≡ bus → x ≡ empty_pair

-- a move that makes nothing of nothing
moved_quiet : (bus : ℕ) (move : Both → Both) (lane : BridgeLane) (world : World) → (lane.bus ≡ bus → move empty_pair ≡ empty_pair)
    → ((l : BridgeLane) → IsQuiet bus l (both world l)) → (l : BridgeLane) → IsQuiet bus l (both (moved move lane world) l)
unfolding empty_pair
moved_quiet bus move lane world none old =
    moved_keeps (IsQuiet bus) move lane world old
    (λ same. ap move (old lane same) ∙ none same)
    (λ same. ap (λ x. flip (move x)) (old lane same) ∙ ap flip (none same))

enters_quiet : (board : Board) (bus on : ℕ) (by : By) (o : OpId) (step : Step) (lane : BridgeLane) → enters_by bus step (Lane lane) ≡ false → lane.bus ≡ bus → enters board on by o step empty_pair ≡ empty_pair
unfolding empty_pair
enters_quiet board bus on by o Land lane none same = refl
enters_quiet board bus on by o (Part phases) lane none same = refl
enters_quiet board bus on by o (Read value) lane none same = refl
enters_quiet board bus on by o Accept lane none same = absurd (grind (arith, nat_tests))
enters_quiet board bus on by o Latch lane none same = absurd (grind (arith, nat_tests))
enters_quiet board bus on by o (Take outcome) lane none same = refl
enters_quiet board bus on by o Stall lane none same = refl
enters_quiet board bus on by o MasterAbort lane none same = refl
enters_quiet board bus on by o TargetAbort lane none same = refl

place_quiet : (board : Board) (bus on : ℕ) (by : By) (o : OpId) (step : Step) (place : Place) (world : World) → enters_by bus step place ≡ false
    → ((l : BridgeLane) → IsQuiet bus l (both world l)) → (l : BridgeLane) → IsQuiet bus l (both (at_place board on by o step place world) l)
place_quiet board bus on by o step (Target target) world none old = old
place_quiet board bus on by o step (Header number) world none old = old
place_quiet board bus on by o step (Lane lane) world none old =
    moved_quiet bus (enters board on by o step) lane world (enters_quiet board bus on by o step lane none) old
place_quiet board bus on by o step Nobody world none old = old

leaves_quiet : (bus : ℕ) (lane : BridgeLane) (o : OpId) (outcome : Option Outcome) (world : World)
    → ((l : BridgeLane) → IsQuiet bus l (both world l)) → (l : BridgeLane) → IsQuiet bus l (both (leaves lane o outcome world) l)
unfolding empty_pair
leaves_quiet bus lane o None world old = old
leaves_quiet bus lane o (Some outcome) world old = moved_quiet bus (item_ends o outcome) lane world (λ _. refl) old

initiator_quiet : (board : Board) (bus : ℕ) (by : By) (o : OpId) (step : Step) (world : World)
    → ((l : BridgeLane) → IsQuiet bus l (both world l)) → (l : BridgeLane) → IsQuiet bus l (both (at_initiator board by o step world) l)
initiator_quiet board bus Master o step world old = old
initiator_quiet board bus (ByLane lane) o step world old = leaves_quiet bus lane o (lane_outcome board lane o step) world old

event_quiet : (board : Board) (bus : ℕ) (world : World) (e : Event) → enters_at bus e ≡ false
    → ((l : BridgeLane) → IsQuiet bus l (both world l)) → (l : BridgeLane) → IsQuiet bus l (both (after board world e) l)
unfolding empty_pair
event_quiet board bus world (Act on by o step place) none old =
    initiator_quiet board bus by o step (at_place board on by o step place world) (place_quiet board bus on by o step place world none old)
event_quiet board bus world (Arrive lane mark) none old = moved_quiet bus (arrives mark) lane world (λ _. refl) old

none_in : (bus : ℕ) (e : Event) (h : List Event) → list_any (enters_at bus) (e ∷ h) ≡ false → (enters_at bus e ≡ false) × (list_any (enters_at bus) h ≡ false)
none_in bus e h none =
    let P : Bool → Type 0 = λ b. enters_at bus e ≡ b → (b || list_any (enters_at bus) h) ≡ false → (enters_at bus e ≡ false) × (list_any (enters_at bus) h ≡ false) in
    (elim (enters_at bus e) as P [ true ↦ λ _ e. cc | false ↦ λ is later. (is, later) ]) refl none

world_quiet : (board : Board) (bus : ℕ) (h : List Event) → list_any (enters_at bus) h ≡ false → (l : BridgeLane) → IsQuiet bus l (both (world_of board h) l)
unfolding empty_pair
world_quiet board bus [] none l = λ _. refl
world_quiet board bus (e ∷ h) none l =
    let parts = none_in bus e h none in
    event_quiet board bus (world_of board h) e parts.0 (world_quiet board bus h parts.1) l

pub Quiet-empty : (board : Board) (h : List Event) (lane : BridgeLane) → list_any (enters_at lane.bus) h ≡ false → world_of board h lane ≡ empty_lane
unfolding empty_pair
Quiet-empty board h lane none = ap (λ x. x.here) (world_quiet board lane.bus h none lane refl)

-- nothing enters a lane of no bridge
step_no_bridge : (board : Board) (h : List Event) (bus on : ℕ) (by : By) (o : OpId) (step : Step) (lane : BridgeLane) → bridge_to board bus ≡ None → AtLane board h on by o step lane → (lane.bus ≡ bus → ⊥)
step_no_bridge board h bus on by o step lane none at same = let here = at.is_bridge in let there = ap (bridge_to board) same in cc

place_no_bridge : (board : Board) (h : List Event) (bus on : ℕ) (by : By) (o : OpId) (step : Step) (place : Place) → bridge_to board bus ≡ None → answer board h on by o ≡ Gives step place → is_lane_of bus place ≡ false
place_no_bridge board h bus on by o step (Target target) none gives = refl
place_no_bridge board h bus on by o step (Header number) none gives = refl
place_no_bridge board h bus on by o step (Lane lane) none gives =
    let apart = step_no_bridge board h bus on by o step lane none (answered_at board h on by o step lane gives) in
    grind (arith, nat_tests)
place_no_bridge board h bus on by o step Nobody none gives = refl

enters_no_bridge : (bus : ℕ) (step : Step) (place : Place) → is_lane_of bus place ≡ false → enters_by bus step place ≡ false
enters_no_bridge bus Land place none = refl
enters_no_bridge bus (Part phases) place none = refl
enters_no_bridge bus (Read value) place none = refl
enters_no_bridge bus Accept place none = none
enters_no_bridge bus Latch place none = none
enters_no_bridge bus (Take outcome) place none = refl
enters_no_bridge bus Stall place none = refl
enters_no_bridge bus MasterAbort place none = refl
enters_no_bridge bus TargetAbort place none = refl

event_no_bridge : (board : Board) (h : List Event) (bus : ℕ) (e : Event) → bridge_to board bus ≡ None → Allowed board h e → enters_at bus e ≡ false
event_no_bridge board h bus (Act on by o step place) none allowed = enters_no_bridge bus step place (place_no_bridge board h bus on by o step place none allowed.1)
event_no_bridge board h bus (Arrive lane mark) none allowed = refl

pub run_no_bridge : (board : Board) (bus : ℕ) (h : List Event) → bridge_to board bus ≡ None → Run board h → list_any (enters_at bus) h ≡ false
run_no_bridge board bus [] none run = refl
run_no_bridge board bus (e ∷ h) none run =
    let here = event_no_bridge board h bus e none run.0 in
    let later = run_no_bridge board bus h none run.1 in
    rw here later
