-- A signal that the event does not touch shows what it showed a moment before.
use Rattle.std.proofs.Common.{◌≡◌, ℕ, ◌+◌, ◌-◌, ◌==◌, ◌||◌, ◌&&◌, not, Bool, true, false, cond, eqb, List, [], ◌∷◌, Option, Some, None, refl, sym, ap, subst, ◌∙◌, arith}
use Rattle.std.proofs.lemmas.Bool.Decides.{nat_tests}
use Rattle.pci_command.specs.declared.op_id.OpId.{OpId}
use Rattle.pci_command.specs.declared.op_id.Outcome.{Outcome}
use Rattle.board_model.specs.declared.bridge.Lane.{Lane as BridgeLane}
use Rattle.board_model.specs.declared.bridge.Place.{Place}
use Rattle.board_model.specs.declared.bridge.Place.TheVariants as places
use Rattle.board_model.specs.declared.board.Board.{Board}
use Rattle.board_model.specs.Ways.{lane_back}
use Rattle.history_model.specs.declared.event.By.{By}
use Rattle.history_model.specs.declared.event.By.TheVariants.{Master, Lane as ByLane}
use Rattle.history_model.specs.declared.event.Step.{Step}
use Rattle.history_model.specs.declared.event.Step.TheVariants as steps
use Rattle.history_model.specs.declared.event.Event.{Event}
use Rattle.history_model.specs.declared.event.Event.TheVariants.{Act, Arrive}
use Rattle.history_model.specs.Lanes.{LaneState, Both, item_ends, arrives}
use Rattle.history_model.specs.World.{World, same_lane, same_direction, both, moved, enters, at_place, lane_outcome, leaves, at_initiator, world_of}
use Rattle.history_model.specs.Program.{ending_of, master_outcome, follows, turn_after, turn_of}
use Rattle.history_model.specs.Answers.{stalls_at, stalls_in, stalls_by, stalls_used}
use Rattle.run_waves.specs.declared.signal.BusPart.{BusPart}
use Rattle.run_waves.specs.declared.signal.BusPart.TheVariants as parts
use Rattle.run_waves.specs.declared.signal.LaneCount.{LaneCount}
use Rattle.run_waves.specs.declared.signal.Signal.{Signal}
use Rattle.run_waves.specs.declared.signal.Signal.TheVariants.{Bus, Lane, Index, Try, Waits, Stall}
use Rattle.std.specs.Option.{option_map}
use Rattle.history_model.specs.Local.{bus_of}
use Rattle.run_waves.specs.declared.scene.Scene.{Scene}
use Rattle.run_waves.specs.declared.reading.SignalReading.{SignalReading}
use Rattle.run_waves.specs.Shown.{Moment, past, events_by, Shown, Level, Number, is_event_on, idle_part, part_of, count_on, ops_of, index_of, try_of, waits, stalls_of, shown}
use Rattle.run_waves.specs.Scenes.{Follows, Reads, scene_at, scene_of}
use Rattle.run_waves.specs.Dump.{value_line, same_shown, same_level, is_of_event, change_line}
use Rattle.run_waves.specs.Touched.{presents_over, claims_over, moves_lanes, moves_master, claims_at, moves_target, is_at, happens_so, may_change, touch_of}
use Rattle.run_waves.proofs.WaitLemmas.{other_waits, lane_waits}

-- neither of two tests holds
pub neither_left : (a b : Bool) → (a || b) ≡ false → a ≡ false
neither_left true b e = e
neither_left false b e = refl

pub neither_right : (a b : Bool) → (a || b) ≡ false → b ≡ false
neither_right true b e = cc
neither_right false b e = e

-- Lanes.

another_lane : (lane mover : BridgeLane) → eqb mover.bus lane.bus ≡ false → same_lane lane mover ≡ false
another_lane lane mover differ =
    let turned : eqb lane.bus mover.bus ≡ false = grind (arith, differ, nat_tests) in
    ap (λ (b : Bool). b && same_direction lane.up mover.up) turned

another_back : (lane mover : BridgeLane) → eqb mover.bus lane.bus ≡ false → same_lane lane (lane_back mover) ≡ false
another_back lane mover differ =
    let turned : eqb lane.bus mover.bus ≡ false = grind (arith, differ, nat_tests) in
    ap (λ (b : Bool). b && same_direction lane.up (not mover.up)) turned

moved_stays : (move : Both → Both) (mover : BridgeLane) (world : World) (lane : BridgeLane) → eqb mover.bus lane.bus ≡ false → moved move mover world lane ≡ world lane
moved_stays move mover world lane differ =
    let x : Both = move (both world mover) in
    ap (λ (b : Bool). cond b x.here (cond (same_lane lane (lane_back mover)) x.back (world lane))) (another_lane lane mover differ)
    ∙ ap (λ (b : Bool). cond b x.back (world lane)) (another_back lane mover differ)

place_stays : (board : Board) (on : ℕ) (by : By) (o : OpId) (step : Step) (place : Place) (world : World) (lane : BridgeLane) → claims_over place lane.bus ≡ false → at_place board on by o step place world lane ≡ world lane
place_stays board on by o step (places.Target target) world lane none = refl
place_stays board on by o step (places.Header header) world lane none = refl
place_stays board on by o step (places.Lane mover) world lane none = moved_stays (enters board on by o step) mover world lane none
place_stays board on by o step places.Nobody world lane none = refl

leaves_stays : (mover : BridgeLane) (o : OpId) (found : Option Outcome) (world : World) (lane : BridgeLane) → eqb mover.bus lane.bus ≡ false → leaves mover o found world lane ≡ world lane
leaves_stays mover o None world lane none = refl
leaves_stays mover o (Some outcome) world lane none = moved_stays (item_ends o outcome) mover world lane none

initiator_stays : (board : Board) (by : By) (o : OpId) (step : Step) (world : World) (lane : BridgeLane) → presents_over by lane.bus ≡ false → at_initiator board by o step world lane ≡ world lane
initiator_stays board Master o step world lane none = refl
initiator_stays board (ByLane mover) o step world lane none = leaves_stays mover o (lane_outcome board mover o step) world lane none

lane_stays : (board : Board) (h : List Event) (e : Event) (lane : BridgeLane) → moves_lanes lane.bus e ≡ false → world_of board (e ∷ h) lane ≡ world_of board h lane
lane_stays board h (Act on by o step place) lane none =
    let world : World = world_of board h in
    initiator_stays board by o step (at_place board on by o step place world) lane (neither_left (presents_over by lane.bus) (claims_over place lane.bus) none)
    ∙ place_stays board on by o step place world lane (neither_right (presents_over by lane.bus) (claims_over place lane.bus) none)
lane_stays board h (Arrive mover mark) lane none = moved_stays (arrives mark) mover (world_of board h) lane none

-- Masters.

turn_ends : (board : Board) (o : OpId) (found : Option Outcome) (master : ℕ) (turn : Option OpId) → eqb o.master master ≡ false → turn_after board master turn (ending_of o found) ≡ turn
turn_ends board o None master turn differ = refl
turn_ends board o (Some outcome) master turn differ = ap (λ (b : Bool). cond b (follows board (record { op = o; outcome = outcome })) turn) differ

turn_stays : (board : Board) (h : List Event) (e : Event) (master : ℕ) → moves_master master e ≡ false → turn_of board (e ∷ h) master ≡ turn_of board h master
turn_stays board h (Act on Master o step place) master none = turn_ends board o (master_outcome step) master (turn_of board h master) none
turn_stays board h (Act on (ByLane lane) o step place) master none = refl
turn_stays board h (Arrive lane mark) master none = refl

waits_stay : (board : Board) (h : List Event) (e : Event) (master : ℕ) → moves_master master e ≡ false → waits (e ∷ h) (turn_of board (e ∷ h) master) ≡ waits h (turn_of board h master)
waits_stay board h (Act on Master o step place) master none = sym (other_waits board on o step place h master none)
waits_stay board h (Act on (ByLane lane) o step place) master none = sym (lane_waits h (Act on (ByLane lane) o step place) (turn_of board h master) (λ p. refl))
waits_stay board h (Arrive lane mark) master none = sym (lane_waits h (Arrive lane mark) (turn_of board h master) (λ p. refl))

-- Targets.

no_stall_at : (target : ℕ) (place : Place) → claims_at place target ≡ false → stalls_at target place ≡ 0
no_stall_at target (places.Target place) none = ap (λ (b : Bool). cond b 1 0) none
no_stall_at target (places.Header header) none = refl
no_stall_at target (places.Lane lane) none = refl
no_stall_at target places.Nobody none = refl

no_stall_in : (target : ℕ) (place : Place) (step : Step) → claims_at place target ≡ false → stalls_in target place step ≡ 0
no_stall_in target place steps.Land none = refl
no_stall_in target place (steps.Part phases) none = refl
no_stall_in target place (steps.Read value) none = refl
no_stall_in target place steps.Accept none = refl
no_stall_in target place steps.Latch none = refl
no_stall_in target place (steps.Take outcome) none = refl
no_stall_in target place steps.Stall none = no_stall_at target place none
no_stall_in target place steps.MasterAbort none = refl
no_stall_in target place steps.TargetAbort none = refl

no_stall : (target : ℕ) (e : Event) → moves_target target e ≡ false → stalls_by target e ≡ 0
no_stall target (Act on by o step place) none = no_stall_in target place step none
no_stall target (Arrive lane mark) none = refl

stalls_stay : (h : List Event) (e : Event) (target : ℕ) → moves_target target e ≡ false → stalls_used (e ∷ h) target ≡ stalls_used h target
stalls_stay h e target none = ap (λ (n : ℕ). n + stalls_used h target) (no_stall target e none) ∙ omega arith

-- Signals, by the events before a moment and what happens in it.

lane_shown : (board : Board) (h : List Event) (event : Option Event) (lane : BridgeLane) (count : LaneCount) → happens_so (moves_lanes lane.bus) event ≡ false
    → count_on count (world_of board (events_by h event) lane) ≡ count_on count (world_of board h lane)
lane_shown board h None lane count none = refl
lane_shown board h (Some e) lane count none = ap (λ (l : LaneState). count_on count l) (lane_stays board h e lane none)

turn_shown : (board : Board) (h : List Event) (event : Option Event) (master : ℕ) → happens_so (moves_master master) event ≡ false → turn_of board (events_by h event) master ≡ turn_of board h master
turn_shown board h None master none = refl
turn_shown board h (Some e) master none = turn_stays board h e master none

waits_shown : (board : Board) (h : List Event) (event : Option Event) (master : ℕ) → happens_so (moves_master master) event ≡ false
    → waits (events_by h event) (turn_of board (events_by h event) master) ≡ waits h (turn_of board h master)
waits_shown board h None master none = refl
waits_shown board h (Some e) master none = waits_stay board h e master none

stalls_shown : (h : List Event) (event : Option Event) (target : ℕ) → happens_so (moves_target target) event ≡ false → stalls_used (events_by h event) target ≡ stalls_used h target
stalls_shown h None target none = refl
stalls_shown h (Some e) target none = stalls_stay h e target none

-- the event of a scene, and its bus
scene_event : (board : Board) (h : List Event) (event : Option Event) → option_map (λ (scene : Scene). scene.event) (scene_at board h event) ≡ event
scene_event board h None = refl
scene_event board h (Some e) = refl

scene_bus : (board : Board) (h : List Event) (event : Option Event) (bus : ℕ) → is_at bus (option_map (λ (scene : Scene). bus_of board scene.event) (scene_at board h event)) ≡ is_event_on board bus event
scene_bus board h None bus = refl
scene_bus board h (Some e) bus = refl

-- the moment behind another
abbrev behind : Moment → Option Event → Moment
behind before event = record { before = past before; event = event }

-- what is not touched then
abbrev Untouched : Board → Moment → Option Event → Signal → Type 0
Untouched board before event signal = may_change (touch_of board (scene_of board before) (scene_at board (past before) event)) signal ≡ false

shown_stays : (board : Board) (before : Moment) (event : Option Event) (signal : Signal) → Untouched board before event signal → shown board (behind before event) signal ≡ shown board before signal
shown_stays board before event (Bus bus part) none =
    let from : Bool = is_at bus (option_map (λ (scene : Scene). bus_of board scene.event) (scene_of board before)) in
    let to : Bool = is_at bus (option_map (λ (scene : Scene). bus_of board scene.event) (scene_at board (past before) event)) in
    let was : is_event_on board bus before.event ≡ false = sym (scene_bus board before.before before.event bus) ∙ neither_left from to none in
    let is : is_event_on board bus event ≡ false = sym (scene_bus board (past before) event bus) ∙ neither_right from to none in
    ap (λ (b : Bool). cond b (part_of board part (past before) event) (idle_part part)) is
    ∙ sym (ap (λ (b : Bool). cond b (part_of board part before.before before.event) (idle_part part)) was)
shown_stays board before event (Lane lane count) none =
    ap Number (lane_shown board (past before) event lane count (ap (happens_so (moves_lanes lane.bus)) (sym (scene_event board (past before) event)) ∙ none))
shown_stays board before event (Index master) none =
    ap (λ (turn : Option OpId). Number (index_of (ops_of board master) turn))
    (turn_shown board (past before) event master (ap (happens_so (moves_master master)) (sym (scene_event board (past before) event)) ∙ none))
shown_stays board before event (Try master) none =
    ap (λ (turn : Option OpId). Number (try_of turn))
    (turn_shown board (past before) event master (ap (happens_so (moves_master master)) (sym (scene_event board (past before) event)) ∙ none))
shown_stays board before event (Waits master) none =
    ap Level (waits_shown board (past before) event master (ap (happens_so (moves_master master)) (sym (scene_event board (past before) event)) ∙ none))
shown_stays board before event (Stall target) none =
    ap (λ (n : ℕ). Number (stalls_of board target - n))
    (stalls_shown (past before) event target (ap (happens_so (moves_target target)) (sym (scene_event board (past before) event)) ∙ none))

-- what is shown is the same as itself
same_number : (n : ℕ) → (n == n) ≡ true
same_number n = grind (arith, nat_tests)

self_level : (b : Bool) → same_level b b ≡ true
self_level true = refl
self_level false = refl

same_idle : (part : BusPart) → same_shown (idle_part part) (idle_part part) ≡ true
same_idle parts.Event = refl
same_idle parts.By = refl
same_idle parts.Op = refl
same_idle parts.To = refl
same_idle parts.Value = refl

-- a signal is written in a moment, or shows what it showed
abbrev written_by : Board → Option Event → Signal → Shown → Shown → Bool
written_by board event signal old new = is_of_event board event signal || not (same_shown old new)

not_written : (board : Board) (before : Moment) (event : Option Event) (signal : Signal) → Untouched board before event signal → written_by board event signal (shown board before signal) (shown board before signal) ≡ false
not_written board before event (Bus bus part) none =
    let from : Bool = is_at bus (option_map (λ (scene : Scene). bus_of board scene.event) (scene_of board before)) in
    let to : Bool = is_at bus (option_map (λ (scene : Scene). bus_of board scene.event) (scene_at board (past before) event)) in
    let was : is_event_on board bus before.event ≡ false = sym (scene_bus board before.before before.event bus) ∙ neither_left from to none in
    let is : is_event_on board bus event ≡ false = sym (scene_bus board (past before) event bus) ∙ neither_right from to none in
    let idle : shown board before (Bus bus part) ≡ idle_part part = ap (λ (b : Bool). cond b (part_of board part before.before before.event) (idle_part part)) was in
    ap (λ (b : Bool). b || not (same_shown (shown board before (Bus bus part)) (shown board before (Bus bus part)))) is
    ∙ ap (λ (s : Shown). not (same_shown s s)) idle ∙ ap not (same_idle part)
not_written board before event (Lane lane count) none = ap not (same_number (count_on count (world_of board (past before) lane)))
not_written board before event (Index master) none = ap not (same_number (index_of (ops_of board master) (turn_of board (past before) master)))
not_written board before event (Try master) none = ap not (same_number (try_of (turn_of board (past before) master)))
not_written board before event (Waits master) none = ap not (self_level (waits (past before) (turn_of board (past before) master)))
not_written board before event (Stall target) none = ap not (same_number (stalls_of board target - stalls_used (past before) target))

line_behind : (board : Board) (before : Moment) (event : Option Event) (k : ℕ) (signal : Signal) → Untouched board before event signal → change_line board before (behind before event) k signal ≡ []
line_behind board before event k signal none =
    let new : Shown = shown board (behind before event) signal in
    let off : written_by board event signal (shown board before signal) new ≡ false =
    ap (written_by board event signal (shown board before signal)) (shown_stays board before event signal none) ∙ not_written board before event signal none in
    ap (λ (b : Bool). cond b (value_line k new ∷ []) []) off

reads_behind : (board : Board) (before : Moment) (event : Option Event) (signal : Signal) (r : SignalReading) → Untouched board before event signal → Reads board before signal r → Reads board (behind before event) signal r
reads_behind board before event (Bus bus part) r none reads = reads
reads_behind board before event (Lane lane count) r none reads = reads ∙ sym (shown_stays board before event (Lane lane count) none)
reads_behind board before event (Index master) r none reads = reads ∙ sym (shown_stays board before event (Index master) none)
reads_behind board before event (Try master) r none reads = reads ∙ sym (shown_stays board before event (Try master) none)
reads_behind board before event (Waits master) r none reads = reads ∙ sym (shown_stays board before event (Waits master) none)
reads_behind board before event (Stall target) r none reads = reads ∙ sym (shown_stays board before event (Stall target) none)

-- of two moments, of which one follows the other, and of their scenes as the program has them

moment_is : (before after : Moment) → Follows before after → behind before after.event ≡ after
moment_is before after follows = ap (λ (h : List Event). record { before = h; event = after.event }) (sym follows)

touched_by : (board : Board) (before after : Moment) (from to : Option Scene) (signal : Signal) → Follows before after → from ≡ scene_of board before → to ≡ scene_of board after
    → may_change (touch_of board from to) signal ≡ false → Untouched board before after.event signal
touched_by board before after from to signal follows from_is to_is none =
    let F : Option Scene → Option Scene → Type 0 = λ f t. may_change (touch_of board f t) signal ≡ false in
    let one : F (scene_of board before) to = subst (λ (f : Option Scene). F f to) from_is none in
    let two : F (scene_of board before) (scene_of board after) = subst (λ (t : Option Scene). F (scene_of board before) t) to_is one in
    subst (λ (h : List Event). F (scene_of board before) (scene_at board h after.event)) follows two

pub untouched_line : (board : Board) (before after : Moment) (from to : Option Scene) (k : ℕ) (signal : Signal) → Follows before after → from ≡ scene_of board before → to ≡ scene_of board after
    → may_change (touch_of board from to) signal ≡ false → change_line board before after k signal ≡ []
untouched_line board before after from to k signal follows from_is to_is none =
    let off : Untouched board before after.event signal = touched_by board before after from to signal follows from_is to_is none in
    ap (λ (m : Moment). change_line board before m k signal) (sym (moment_is before after follows)) ∙ line_behind board before after.event k signal off

pub untouched_reads : (board : Board) (before after : Moment) (from to : Option Scene) (signal : Signal) (r : SignalReading) → Follows before after → from ≡ scene_of board before → to ≡ scene_of board after
    → may_change (touch_of board from to) signal ≡ false → Reads board before signal r → Reads board after signal r
untouched_reads board before after from to signal r follows from_is to_is none reads =
    let off : Untouched board before after.event signal = touched_by board before after from to signal follows from_is to_is none in
    subst (λ (m : Moment). Reads board m signal r) (moment_is before after follows) (reads_behind board before after.event signal r off reads)
