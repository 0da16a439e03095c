-- What is known of bridges over which nothing is in flight.
use Rattle.std.proofs.Common.{◌≡◌, ◌≢◌, ◌<◌, ℕ, zero, suc, Bool, true, false, eqb, ◌&&◌, List, [], ◌∷◌, ◌+◌, length, drop, get_or, Option, Some, None, ◌⊎◌, inl, inr, refl, sym, ap, subst, ◌∙◌, slice_get, arith}
use Rattle.std.specs.Option.{option_or}
use Rattle.std.proofs.lemmas.Bool.{eqb-true, eqb-false, and_parts}
use Rattle.std.proofs.lemmas.List.{length-set}
use Rattle.std.proofs.lemmas.Option.{slice_get_within}
use Rattle.std.proofs.Math.ListN.{set}
use Rattle.std.proofs.Math.Seq.{drop-cons}
use Rattle.circular_buffer.proofs.Places.{slice_get-set_same, slice_get-set_other}
use Rattle.pci_command.specs.declared.op_id.OpId.{OpId}
use Rattle.pci_command.specs.declared.op_id.Outcome.{Outcome}
use Rattle.board_model.specs.declared.bridge.Lane.{Lane as BridgeLane}
use Rattle.board_model.specs.declared.bridge.Place.{Place}
use Rattle.board_model.specs.declared.bridge.Place.TheVariants.{Target, Header, Lane, Nobody}
use Rattle.board_model.specs.declared.board.Board.{Board}
use Rattle.board_model.specs.Ways.{lane_back}
use Rattle.history_model.specs.declared.event.By.{By}
use Rattle.history_model.specs.declared.event.By.TheVariants.{Master, Lane as ByLane}
use Rattle.history_model.specs.declared.event.Mark.{Mark}
use Rattle.history_model.specs.declared.event.Step.{Step}
use Rattle.history_model.specs.declared.event.Event.{Event}
use Rattle.history_model.specs.declared.event.Event.TheVariants.{Act, Arrive}
use Rattle.history_model.specs.declared.item.Carried.{Carried}
use Rattle.history_model.specs.Lanes.{LaneState, Both, item_ends, arrives}
use Rattle.history_model.specs.World.{World, same_lane, same_direction, moved, enters, at_place, leaves, at_initiator, lane_outcome, world_of}
use Rattle.history_model.specs.Runs.{mark_of_first}
use Rattle.history_model.specs.Next.{first_in, first_below, first_bus, arrival_of}
use Rattle.law_local.proofs.Laws.{moved_other}
use Rattle.judge_state.specs.State.{KeptState, lane_from, lanes_in}
use Rattle.judge_state.specs.Stands.{StandsFor}
use Rattle.judge_state.proofs.LookLemmas as look
use Rattle.judge_next.specs.declared.flights.LaneFlights.{LaneFlights}
use Rattle.judge_next.specs.Lines.{lanes_ending, lanes_below, all_lanes}
use Rattle.judge_next.specs.Now.{arrival_now, arrival_on}
use Rattle.judge_next.specs.Flights.{claiming, presenting, is_nil, are_still, is_still, looked, KnowsStill, KnowsFlights}
use Rattle.judge_next.proofs.LineLemmas.{first_in-append}

-- The first over all lanes is the first by bus.

first_under : (board : Board) (k : KeptState) (n : ℕ) → first_in (arrival_now board k) (lanes_below n board) ≡ first_below n (arrival_on board k)
first_under board k zero = refl
first_under board k (suc n) =
    first_in-append (arrival_now board k) (lanes_below n board) (lanes_ending 256 board n)
    ∙ ap (λ a. option_or a (first_in (arrival_now board k) (lanes_ending 256 board n))) (first_under board k n)

pub first_of_all : (board : Board) (k : KeptState) → first_in (arrival_now board k) (all_lanes board) ≡ first_bus (arrival_on board k)
unfolding all_lanes first_bus
first_of_all board k = first_under board k 256

-- On the lanes of a still bridge nothing arrives.

nil_is : (items : List Carried) → is_nil items ≡ true → items ≡ []
nil_is [] is = refl
nil_is (item ∷ rest) is = cc

no_mark : (board : Board) (lane : BridgeLane) (state : LaneState) → is_nil state.flight ≡ true → arrival_of lane (mark_of_first board lane state state.flight) ≡ None
no_mark board lane state is = ap (λ (flight : List Carried). arrival_of lane (mark_of_first board lane state flight)) (nil_is state.flight is)

lane_still : (board : Board) (lane : BridgeLane) (up : Bool) (lanes : Option Both) → are_still lanes ≡ true
    → arrival_of lane (mark_of_first board lane (lane_from up lanes) (lane_from up lanes).flight) ≡ None
lane_still board lane up None is = refl
lane_still board lane true (Some lanes) is = no_mark board lane lanes.back (and_parts (is_nil lanes.here.flight) (is_nil lanes.back.flight) is).1
lane_still board lane false (Some lanes) is = no_mark board lane lanes.here (and_parts (is_nil lanes.here.flight) (is_nil lanes.back.flight) is).0

still_none : (board : Board) (k : KeptState) (lane : BridgeLane) → is_still board k lane.bus ≡ true → arrival_now board k lane ≡ None
still_none board k lane is = lane_still board lane lane.up (lanes_in board k.lanes lane.bus) is

-- what is looked at first
pub flights_known : (board : Board) (k : KeptState) (flights : LaneFlights) → flights.lanes.items ≡ all_lanes board → length flights.still.items ≡ 256
    → ((bus : ℕ) → bus < 256 → slice_get flights.still.items bus ≡ Some (is_still board k bus)) → KnowsFlights board k flights
flights_known board k flights lanes all each = record {
  lanes = lanes;
  all_bridges = all;
  still = λ lane is.
      let within : lane.bus < length flights.still.items = slice_get_within flights.still.items lane.bus true is in
      let there : Some (is_still board k lane.bus) ≡ Some true = sym (each lane.bus (omega (arith, within, all))) ∙ is in
      still_none board k lane cc;
}

-- An event leaves the lanes of all bridges as they were but those that it sends over.

other_lane : (lane other : BridgeLane) → lane.bus ≢ other.bus → same_lane lane other ≡ false
other_lane lane other apart =
    let P : Bool → Type 0 = λ b. eqb lane.bus other.bus ≡ b → (b && same_direction lane.up other.up) ≡ false in
    (elim (eqb lane.bus other.bus) as P [ true ↦ λ same. absurd (apart (eqb-true lane.bus other.bus same)) | false ↦ λ _. refl ]) refl

moved_elsewhere : (move : Both → Both) (other : BridgeLane) (world : World) (lane : BridgeLane) → Some lane.bus ≢ Some other.bus → moved move other world lane ≡ world lane
moved_elsewhere move other world lane apart =
    let differ : lane.bus ≢ other.bus = λ same. apart (ap Some same) in
    moved_other move other world lane (other_lane lane other differ) (other_lane lane (lane_back other) differ)

ends_elsewhere : (other : BridgeLane) (o : OpId) (outcome : Option Outcome) (world : World) (lane : BridgeLane) → Some lane.bus ≢ Some other.bus → leaves other o outcome world lane ≡ world lane
ends_elsewhere other o None world lane apart = refl
ends_elsewhere other o (Some outcome) world lane apart = moved_elsewhere (item_ends o outcome) other world lane apart

place_elsewhere : (board : Board) (on : ℕ) (by : By) (o : OpId) (step : Step) (place : Place) (world : World) (lane : BridgeLane)
    → Some lane.bus ≢ claiming (Act on by o step place) → at_place board on by o step place world lane ≡ world lane
place_elsewhere board on by o step (Target target) world lane apart = refl
place_elsewhere board on by o step (Header bus) world lane apart = refl
place_elsewhere board on by o step (Lane other) world lane apart = moved_elsewhere (enters board on by o step) other world lane apart
place_elsewhere board on by o step Nobody world lane apart = refl

initiator_elsewhere : (board : Board) (on : ℕ) (by : By) (o : OpId) (step : Step) (place : Place) (world : World) (lane : BridgeLane)
    → Some lane.bus ≢ presenting (Act on by o step place) → at_initiator board by o step world lane ≡ world lane
initiator_elsewhere board on Master o step place world lane apart = refl
initiator_elsewhere board on (ByLane other) o step place world lane apart = ends_elsewhere other o (lane_outcome board other o step) world lane apart

elsewhere : (board : Board) (h : List Event) (e : Event) (lane : BridgeLane) → Some lane.bus ≢ claiming e → Some lane.bus ≢ presenting e → world_of board (e ∷ h) lane ≡ world_of board h lane
elsewhere board h (Act on by o step place) lane claims presents =
    initiator_elsewhere board on by o step place (at_place board on by o step place (world_of board h)) lane presents
    ∙ place_elsewhere board on by o step place (world_of board h) lane claims
elsewhere board h (Arrive other mark) lane claims presents = moved_elsewhere (arrives mark) other (world_of board h) lane claims

-- What is known after an event.

-- a bridge that is known to be still after a look was looked at, or was known to be still before
looked_says : (board : Board) (k : KeptState) (at : Option ℕ) (still : List Bool) (bus : ℕ) → slice_get (looked board k at still) bus ≡ Some true
    → (is_still board k bus ≡ true) ⊎ ((Some bus ≢ at) × (slice_get still bus ≡ Some true))
looked_says board k None still bus is = inr (λ same. cc, is)
looked_says board k (Some place) still bus is =
    let flag : Bool = is_still board k place in
    let P : Bool → Type 0 = λ b. eqb bus place ≡ b → (is_still board k bus ≡ true) ⊎ ((Some bus ≢ Some place) × (slice_get still bus ≡ Some true)) in
    (elim (eqb bus place) as P [
      | true ↦ λ same.
          let at : bus ≡ place = eqb-true bus place same in
          let here : slice_get (set still place flag) place ≡ Some true = subst (λ (n : ℕ). slice_get (set still place flag) n ≡ Some true) at is in
          let inside : place < length (set still place flag) = slice_get_within (set still place flag) place true here in
          let within : place < length still = omega (arith, inside, length-set still place flag) in
          let now : Some flag ≡ Some true = sym (slice_get-set_same still place flag within) ∙ here in
          let stands : flag ≡ true = cc in
          inl (subst (λ (n : ℕ). is_still board k n ≡ true) (sym at) stands)
      | false ↦ λ differ.
          let apart : bus ≢ place = eqb-false bus place differ in
          let other : Some bus ≢ Some place = λ same. apart cc in
          inr (other, sym (slice_get-set_other still place bus flag apart) ∙ is)
    ]) refl

looked_length : (board : Board) (k : KeptState) (at : Option ℕ) (still : List Bool) → length (looked board k at still) ≡ length still
looked_length board k None still = refl
looked_length board k (Some bus) still = length-set still bus (is_still board k bus)

-- a lane of a bridge that was not sent over
stays_none : (board : Board) (h : List Event) (e : Event) (k later : KeptState) (lane : BridgeLane) → StandsFor board h k → StandsFor board (e ∷ h) later
    → Some lane.bus ≢ claiming e → Some lane.bus ≢ presenting e → arrival_now board k lane ≡ None → arrival_now board later lane ≡ None
stays_none board h e k later lane stands stands_later claims presents none =
    let marks : LaneState → Option Mark = λ state. mark_of_first board lane state state.flight in
    ap (arrival_of lane) (look.mark_same board (e ∷ h) later lane stands_later ∙ (ap marks (elsewhere board h e lane claims presents) ∙ sym (look.mark_same board h k lane stands))) ∙ none

still_stays : (board : Board) (h : List Event) (e : Event) (k later : KeptState) (still : List Bool) → StandsFor board h k → StandsFor board (e ∷ h) later
    → KnowsStill board k still → KnowsStill board later (looked board later (presenting e) (looked board later (claiming e) still))
still_stays board h e k later still stands stands_later known lane is =
    let first : List Bool = looked board later (claiming e) still in
    elim (looked_says board later (presenting e) first lane.bus is) as (λ _. arrival_now board later lane ≡ None) [
      | inl now ↦ still_none board later lane now
      | inr before ↦ elim (looked_says board later (claiming e) still lane.bus before.1) as (λ _. arrival_now board later lane ≡ None) [
        | inl now ↦ still_none board later lane now
        | inr old ↦ stays_none board h e k later lane stands stands_later old.0 before.0 (known lane old.1)
      ]
    ]

-- so what is known goes on
pub flights_stay : (board : Board) (h : List Event) (e : Event) (k later : KeptState) (flights after : LaneFlights) → StandsFor board h k → StandsFor board (e ∷ h) later
    → KnowsFlights board k flights → after.lanes ≡ flights.lanes → after.still.items ≡ looked board later (presenting e) (looked board later (claiming e) flights.still.items)
    → KnowsFlights board later after
flights_stay board h e k later flights after stands stands_later known lanes still = record {
  lanes = ap (λ v. v.items) lanes ∙ known.lanes;
  all_bridges =
      ap length still
      ∙ (looked_length board later (presenting e) (looked board later (claiming e) flights.still.items)
      ∙ (looked_length board later (claiming e) flights.still.items ∙ known.all_bridges));
  still = subst (KnowsStill board later) (sym still) (still_stays board h e k later flights.still.items stands stands_later known.still);
}

-- The lanes, one by one.

lane_next : (gives : BridgeLane → Option Event) (lanes : List BridgeLane) (i : ℕ) (d : BridgeLane) → i < length lanes
    → first_in gives (drop i lanes) ≡ option_or (gives (get_or lanes i d)) (first_in gives (drop (i + 1) lanes))
lane_next gives lanes i d within =
    let more : suc i ≡ i + 1 = omega arith in
    ap (first_in gives) (drop-cons lanes i d within) ∙ ap (λ n. option_or (gives (get_or lanes i d)) (first_in gives (drop n lanes))) more

pub lane_found : (gives : BridgeLane → Option Event) (lanes : List BridgeLane) (i : ℕ) (d : BridgeLane) (e : Event) → i < length lanes → gives (get_or lanes i d) ≡ Some e
    → first_in gives (drop i lanes) ≡ first_in gives lanes → Some e ≡ first_in gives lanes
lane_found gives lanes i d e within here so_far =
    sym (sym so_far ∙ (lane_next gives lanes i d within ∙ ap (λ a. option_or a (first_in gives (drop (i + 1) lanes))) here))

pub lane_passed : (gives : BridgeLane → Option Event) (lanes : List BridgeLane) (i : ℕ) (d : BridgeLane) → i < length lanes → gives (get_or lanes i d) ≡ None
    → first_in gives (drop i lanes) ≡ first_in gives lanes → first_in gives (drop (i + 1) lanes) ≡ first_in gives lanes
lane_passed gives lanes i d within none so_far =
    sym (lane_next gives lanes i d within ∙ ap (λ a. option_or a (first_in gives (drop (i + 1) lanes))) none) ∙ so_far
