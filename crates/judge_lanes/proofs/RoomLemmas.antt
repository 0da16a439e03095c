-- In a run the tables of a bridge have room for what one more event brings.
use Rattle.std.proofs.Common.{◌≡◌, ℕ, Bool, true, false, ◌+◌, ◌^◌, ◌<◌, ◌≤◌, ◌==◌, length, List, [], ◌∷◌, Option, None, Some, get_or, take, drop, reverse, ◌++◌, if◌then◌else◌, refl, sym, ap, subst, ◌∙◌, arith}
use Rattle.std.specs.List.{find}
use Rattle.std.proofs.lemmas.List.{take_more, take-append-drop, reverse-append}
use Rattle.pci_command.specs.declared.op_id.OpId.{OpId}
use Rattle.pci_command.specs.declared.op_id.Outcome.{Outcome}
use Rattle.board_model.specs.Limits.{most_posted, most_delayed}
use Rattle.board_model.specs.declared.bridge.Lane.{Lane as BridgeLane}
use Rattle.board_model.specs.declared.bridge.Place.{Place}
use Rattle.board_model.specs.declared.bridge.Place.TheVariants.{Target, Header, Lane, Nobody}
use Rattle.board_model.specs.declared.board.Board.{Board}
use Rattle.board_model.specs.WellFormed.{is_well_formed}
use Rattle.history_model.specs.declared.event.By.{By}
use Rattle.history_model.specs.declared.event.By.TheVariants.{Master, Lane as ByLane}
use Rattle.history_model.specs.declared.event.Mark.{Mark}
use Rattle.history_model.specs.declared.event.Step.{Step}
use Rattle.history_model.specs.declared.event.Step.TheVariants.{Land, Part, Read, Accept, Latch, Take, Stall, MasterAbort, TargetAbort}
use Rattle.history_model.specs.declared.event.Event.{Event}
use Rattle.history_model.specs.declared.event.Event.TheVariants.{Act, Arrive}
use Rattle.history_model.specs.declared.item.Carried.{Carried}
use Rattle.history_model.specs.declared.item.Carried.TheVariants.{Post, Ask, Done, Room, Gone}
use Rattle.history_model.specs.declared.item.Slot.{Slot}
use Rattle.history_model.specs.Lanes.{LaneState, Both, Effect, Stands, Credits, Frees, Drops, asks_in, dones_in, came_off, effect_of, takes_effect, arrives_first, arrives, item_ends}
use Rattle.history_model.specs.declared.rule.Rule.{Rule}
use Rattle.history_model.specs.declared.rule.Rule.TheVariants.{Tagged}
use Rattle.history_model.specs.World.{noted, slot_found, is_own, enters, lane_outcome, world_by, world_of}
use Rattle.history_model.specs.Runs.{Run, RunBy, history_of}
use Rattle.law_lanes.specs.Depths.{Within}
use Rattle.law_lanes.proofs.rules.Laws.{Within-limits_by}
use Rattle.law_lanes.proofs.Laws.{WellFormed-depths, Run-before}
use Rattle.judge_lanes.specs.Bridge.{lanes_of, turned, moved_on, place_on, leaves_on, initiator_on, lanes_after}
use Rattle.judge_lanes.specs.Room.{HasRoom, HaveRoom}
use Rattle.judge_lanes.proofs.LaneLemmas.{lanes_after_event}

-- so many arrivals were counted at most
pub record Counted (most : ℕ) (x : Both) : Type 0 where
  pub asks_here : x.here.asks ≤ most
  pub dones_here : x.here.dones ≤ most
  pub asks_back : x.back.asks ≤ most
  pub dones_back : x.back.dones ≤ most

counted_more : (n : ℕ) (x : Both) → Counted n x → Counted (n + 1) x
counted_more n x counted =
    record {
      asks_here = omega (arith, counted.asks_here);
      dones_here = omega (arith, counted.dones_here);
      asks_back = omega (arith, counted.asks_back);
      dones_back = omega (arith, counted.dones_back);
    }

-- a move that counts no other
counted_as : (n : ℕ) (x y : Both) → y.here.asks ≡ x.here.asks → y.here.dones ≡ x.here.dones → y.back.asks ≡ x.back.asks → y.back.dones ≡ x.back.dones → Counted n x → Counted n y
counted_as n x y a b c d counted =
    record {
      asks_here = omega (arith, counted.asks_here);
      dones_here = omega (arith, counted.dones_here);
      asks_back = omega (arith, counted.asks_back);
      dones_back = omega (arith, counted.dones_back);
    }

counted_turned : (n : ℕ) (up : Bool) (x : Both) → Counted n x → Counted n (turned up x)
counted_turned n false x counted = counted
counted_turned n true x counted =
    record { asks_here = counted.asks_back; dones_here = counted.dones_back; asks_back = counted.asks_here; dones_back = counted.dones_here }

counted_moved : (n : ℕ) (move : Both → Both) → ((x : Both) → Counted n x → Counted n (move x)) →
    (lane : BridgeLane) (bus : ℕ) (x : Both) → Counted n x → Counted n (moved_on move lane bus x)
counted_moved n move keeps lane bus x counted =
    let P : Bool → Type 0 = λ b. Counted n (if b then turned lane.up (move (turned lane.up x)) else x) in
    elim (lane.bus == bus) as P [
      | true ↦ counted_turned n lane.up (move (turned lane.up x)) (keeps (turned lane.up x) (counted_turned n lane.up x counted))
      | false ↦ counted
    ]

counted_found : (n : ℕ) (slot : Option Slot) (x : Both) → Counted n x → Counted n (slot_found slot x)
counted_found n None x counted = counted
counted_found n (Some slot) x counted = counted_as n x (slot_found (Some slot) x) refl refl refl refl counted

counted_enters : (n : ℕ) (board : Board) (on : ℕ) (by : By) (o : OpId) (step : Step) (x : Both) → Counted n x → Counted n (enters board on by o step x)
counted_enters n board on by o Land x counted = counted
counted_enters n board on by o (Part phases) x counted = counted
counted_enters n board on by o (Read value) x counted = counted
counted_enters n board on by o Accept x counted = counted_as n x (enters board on by o Accept x) refl refl refl refl counted
counted_enters n board on by o Latch x counted = counted_as n x (enters board on by o Latch x) refl refl refl refl counted
counted_enters n board on by o (Take outcome) x counted = counted_found n (find (is_own board on by o) x.here.held) x counted
counted_enters n board on by o Stall x counted = counted
counted_enters n board on by o MasterAbort x counted = counted
counted_enters n board on by o TargetAbort x counted = counted

counted_place : (n : ℕ) (board : Board) (on : ℕ) (by : By) (o : OpId) (step : Step) (place : Place) (bus : ℕ) (x : Both) → Counted n x → Counted n (place_on board on by o step place bus x)
counted_place n board on by o step (Target target) bus x counted = counted
counted_place n board on by o step (Header number) bus x counted = counted
counted_place n board on by o step (Lane lane) bus x counted = counted_moved n (enters board on by o step) (counted_enters n board on by o step) lane bus x counted
counted_place n board on by o step Nobody bus x counted = counted

counted_leaves : (n : ℕ) (lane : BridgeLane) (o : OpId) (outcome : Option Outcome) (bus : ℕ) (x : Both) → Counted n x → Counted n (leaves_on lane o outcome bus x)
counted_leaves n lane o None bus x counted = counted
counted_leaves n lane o (Some outcome) bus x counted =
    counted_moved n (item_ends o outcome) (λ y c. counted_as n y (item_ends o outcome y) refl refl refl refl c) lane bus x counted

counted_initiator : (n : ℕ) (board : Board) (by : By) (o : OpId) (step : Step) (bus : ℕ) (x : Both) → Counted n x → Counted n (initiator_on board by o step bus x)
counted_initiator n board Master o step bus x counted = counted
counted_initiator n board (ByLane lane) o step bus x counted = counted_leaves n lane o (lane_outcome board lane o step) bus x counted

asks_in_one : (item : Carried) → asks_in item ≤ 1
asks_in_one (Post op) = omega arith
asks_in_one (Ask op slot) = omega arith
asks_in_one (Done op slot outcome) = omega arith
asks_in_one Room = omega arith
asks_in_one (Gone slot) = omega arith

dones_in_one : (item : Carried) → dones_in item ≤ 1
dones_in_one (Post op) = omega arith
dones_in_one (Ask op slot) = omega arith
dones_in_one (Done op slot outcome) = omega arith
dones_in_one Room = omega arith
dones_in_one (Gone slot) = omega arith

counted_effect : (n : ℕ) (effect : Effect) (item : Carried) (x : Both) → Counted n x → Counted n (takes_effect effect item x)
counted_effect n Stands item x counted = counted_as n x (takes_effect Stands item x) refl refl refl refl counted
counted_effect n Credits item x counted = counted_as n x (takes_effect Credits item x) refl refl refl refl counted
counted_effect n (Frees slot) item x counted = counted_as n x (takes_effect (Frees slot) item x) refl refl refl refl counted
counted_effect n (Drops slot) item x counted = counted_as n x (takes_effect (Drops slot) item x) refl refl refl refl counted

counted_came : (n : ℕ) (item : Carried) (rest : List Carried) (x : Both) → Counted n x → Counted (n + 1) (record x { here = came_off item rest x.here })
counted_came n item rest x counted =
    record {
      asks_here = omega (arith, counted.asks_here, asks_in_one item);
      dones_here = omega (arith, counted.dones_here, dones_in_one item);
      asks_back = omega (arith, counted.asks_back);
      dones_back = omega (arith, counted.dones_back);
    }

counted_first : (n : ℕ) (mark : Mark) (flight : List Carried) (x : Both) → Counted n x → Counted (n + 1) (arrives_first mark flight x)
counted_first n mark [] x counted = counted_more n x counted
counted_first n mark (item ∷ rest) x counted =
    counted_effect (n + 1) (effect_of mark item) item (record x { here = came_off item rest x.here }) (counted_came n item rest x counted)

counted_arrives : (n : ℕ) (mark : Mark) (lane : BridgeLane) (bus : ℕ) (x : Both) → Counted n x → Counted (n + 1) (moved_on (arrives mark) lane bus x)
counted_arrives n mark lane bus x counted =
    let P : Bool → Type 0 = λ b. Counted (n + 1) (if b then turned lane.up (arrives mark (turned lane.up x)) else x) in
    let y : Both = turned lane.up x in
    elim (lane.bus == bus) as P [
      | true ↦ counted_turned (n + 1) lane.up (arrives mark y) (counted_first n mark y.here.flight y (counted_turned n lane.up x counted))
      | false ↦ counted_more n x counted
    ]

-- an event counts at most one more
pub counted_after : (n : ℕ) (rule : Rule) (board : Board) (e : Event) (bus : ℕ) (x : Both) → Counted n x → Counted (n + 1) (lanes_after rule board e bus x)
counted_after n rule board (Act on by o step place) bus x counted =
    counted_more n (lanes_after rule board (Act on by o step place) bus x)
    (counted_initiator n board by o step bus (place_on board on (noted rule by) o step place bus x) (counted_place n board on (noted rule by) o step place bus x counted))
counted_after n rule board (Arrive lane mark) bus x counted = counted_arrives n mark lane bus x counted

lane_room : (lane : LaneState) → Within most_posted most_delayed lane → lane.asks + 1 < 2 ^ 64 → lane.dones + 1 < 2 ^ 64 → HasRoom 2 lane
lane_room lane within asks dones =
    record {
      asks = asks;
      dones = dones;
      flight = omega (arith, within.flight);
      standing = omega (arith, within.standing);
      held = omega (arith, within.held);
      owed = omega (arith, within.owed);
    }

-- after a run under a rule there is room
pub room_after : (rule : Rule) (board : Board) (h : List Event) (bus n : ℕ) → is_well_formed board ≡ true → RunBy rule board h →
    Counted n (lanes_of (world_by rule board h) bus) → n + 1 < 2 ^ 64 → HaveRoom 2 (lanes_of (world_by rule board h) bus)
room_after rule board h bus n formed run counted small =
    let down : BridgeLane = record { bus = bus; up = false } in
    let up : BridgeLane = record { bus = bus; up = true } in
    let depths = WellFormed-depths board formed in (
      lane_room (world_by rule board h down) (Within-limits_by rule board h down depths run) (omega (arith, counted.asks_here)) (omega (arith, counted.dones_here)),
      lane_room (world_by rule board h up) (Within-limits_by rule board h up depths run) (omega (arith, counted.asks_back)) (omega (arith, counted.dones_back)),
    )

-- the front of a run is a run
pub run_front : (board : Board) (events : List Event) (i : ℕ) → Run board (history_of events) → Run board (history_of (take i events))
run_front board events i run =
    let whole : reverse events ≡ reverse (drop i events) ++ reverse (take i events) =
    ap (λ (xs : List Event). reverse xs) (sym (take-append-drop i events)) ∙ reverse-append (take i events) (drop i events) in
    let P : List Event → Type 0 = λ xs. Run board xs in
    Run-before board (reverse (drop i events)) (reverse (take i events)) (subst P whole run)

-- one more event of a trace is the newest of its history
pub history_more : (events : List Event) (i : ℕ) (d : Event) → i < length events → history_of (take (i + 1) events) ≡ get_or events i d ∷ history_of (take i events)
history_more events i d within =
    ap (λ (xs : List Event). reverse xs) (take_more events i d within) ∙ reverse-append (take i events) (get_or events i d ∷ [])

-- at each event of a run there is room
pub room_before : (board : Board) (before : List Event) (i bus : ℕ) (x : Both) → is_well_formed board ≡ true → Run board (history_of before) →
    x ≡ lanes_of (world_of board (history_of (take i before))) bus → Counted i x → i + 1 < 2 ^ 64 → HaveRoom 2 x
room_before board before i bus x formed run is counted small =
    let P : Both → Type 0 = λ y. Counted i y → HaveRoom 2 y in
    subst P (sym is) (λ c. room_after Tagged board (history_of (take i before)) bus i formed (run_front board before i run) c small) counted

-- the lanes after one more event of a trace
pub lanes_more : (board : Board) (before : List Event) (i : ℕ) (d : Event) (bus : ℕ) (x y : Both) → i < length before →
    x ≡ lanes_of (world_of board (history_of (take i before))) bus → Counted i x → y ≡ lanes_after Tagged board (get_or before i d) bus x →
    (y ≡ lanes_of (world_of board (history_of (take (i + 1) before))) bus) × Counted (i + 1) y
lanes_more board before i d bus x y within is counted step =
    let e = get_or before i d in
    let h = history_of (take i before) in
    let more : history_of (take (i + 1) before) ≡ e ∷ h = history_more before i d within in
    let next : lanes_of (world_of board (e ∷ h)) bus ≡ lanes_after Tagged board e bus x =
    lanes_after_event Tagged board (world_of board h) e bus ∙ ap (lanes_after Tagged board e bus) (sym is) in (
      step ∙ (sym next ∙ ap (λ (xs : List Event). lanes_of (world_of board xs) bus) (sym more)),
      subst (λ (z : Both). Counted (i + 1) z) (sym step) (counted_after i Tagged board e bus x counted),
    )
