-- What an event finds on the lanes that are kept is what it finds on those of the history.
use Rattle.std.proofs.Common.{◌≡◌, ℕ, Bool, true, false, ◌==◌, List, Option, None, Some, refl, sym, ap, subst, ◌∙◌, arith, if◌then◌else◌}
use Rattle.std.specs.Option.{option_or}
use Rattle.std.proofs.lemmas.Bool.Decides.{nat_tests}
use Rattle.pci_command.specs.declared.op_id.OpId.{OpId}
use Rattle.pci_command.specs.declared.op_id.Outcome.{Outcome}
use Rattle.board_model.specs.declared.board.Board.{Board}
use Rattle.board_model.specs.declared.bridge.Bridge.{Bridge}
use Rattle.board_model.specs.declared.bridge.Lane.{Lane as BridgeLane}
use Rattle.board_model.specs.declared.bridge.Place.{Place}
use Rattle.board_model.specs.declared.bridge.Place.TheVariants.{Target, Header, Lane, Nobody}
use Rattle.history_model.specs.declared.event.By.{By}
use Rattle.history_model.specs.declared.event.By.TheVariants.{Master, Lane as ByLane}
use Rattle.history_model.specs.declared.event.Mark.{Mark}
use Rattle.history_model.specs.declared.event.Step.{Step}
use Rattle.history_model.specs.declared.event.Event.{Event}
use Rattle.history_model.specs.declared.event.Event.TheVariants.{Act, Arrive}
use Rattle.history_model.specs.declared.item.Answer.TheVariants.{Gives}
use Rattle.history_model.specs.declared.item.Carried.{Carried}
use Rattle.history_model.specs.declared.item.Moved.{Moved}
use Rattle.history_model.specs.declared.rule.Rule.{Rule}
use Rattle.history_model.specs.Lanes.{LaneState, Both, empty_lane}
use Rattle.history_model.specs.World.{World, noted, lane_outcome, world_by}
use Rattle.history_model.specs.Moves.{slot_moved, slot_at, item_moved, item_by, oldest, moved_by}
use Rattle.history_model.specs.Answers.{answer_by_rule, bridge_to}
use Rattle.history_model.specs.Runs.{AllowedBy}
use Rattle.history_model.proofs.facts.AnswerLemmas.{answered_in}
use Rattle.law_lanes.proofs.rules.Laws.{Quiet-run_by}
use Rattle.machine_steps.proofs.LeaveLemmas.{finds_none}
use Rattle.judge_lanes.specs.Bridge.{lanes_of, turned, slot_on, item_on, found_on}
use Rattle.judge_lanes.proofs.LaneLemmas.{lane_there}
use Rattle.judge_state.specs.State.{KeptState, place_of, lanes_at, lanes_in, bus_at, bus_by, other_than, happens_on}
use Rattle.judge_state.specs.Found.{nothing, found_at, found_to, found_by, found_next}
use Rattle.judge_state.specs.Stands.{StandsForBy}
use Rattle.judge_state.proofs.GoLemmas.{elsewhere, happened}

or_none : {X : Type 0} (x : Option X) → option_or x None ≡ x
or_none None = refl
or_none (Some x) = refl

-- A lane of a bridge.

slot_there : (board : Board) (on : ℕ) (by : By) (o : OpId) (step : Step) (lane : BridgeLane) (world : World)
    → slot_on board on by o step (Lane lane) lane.bus (lanes_of world lane.bus) ≡ slot_moved board on by o step (world lane).held
slot_there board on by o step lane world =
    let same : (lane.bus == lane.bus) ≡ true = grind (arith, nat_tests) in
    rw same (ap (λ (x : LaneState). slot_moved board on by o step x.held) (lane_there world lane (lanes_of world lane.bus) refl).0)

item_there : (board : Board) (o : OpId) (step : Step) (lane : BridgeLane) (world : World)
    → item_on board (ByLane lane) o step lane.bus (lanes_of world lane.bus) ≡ item_moved o (lane_outcome board lane o step) (world lane).standing
item_there board o step lane world =
    let same : (lane.bus == lane.bus) ≡ true = grind (arith, nat_tests) in
    rw same (ap (λ (x : LaneState). item_moved o (lane_outcome board lane o step) x.standing) (lane_there world lane (lanes_of world lane.bus) refl).0)

oldest_there : (lane : BridgeLane) (world : World)
    → (if lane.bus == lane.bus then oldest (turned lane.up (lanes_of world lane.bus)).here.flight else None) ≡ oldest (world lane).flight
oldest_there lane world =
    let same : (lane.bus == lane.bus) ≡ true = grind (arith, nat_tests) in
    rw same (ap (λ (x : LaneState). oldest x.flight) (lane_there world lane (lanes_of world lane.bus) refl).0)

item_none : (o : OpId) (outcome : Option Outcome) → item_moved o outcome empty_lane.standing ≡ None
item_none o None = refl
item_none o (Some outcome) = refl

module _ (rule : Rule) (board : Board) (h : List Event) (k : KeptState) (stands : StandsForBy rule board h k) where
  abbrev world : World
  world = world_by rule board h

  lanes_there : (bus : ℕ) (bridge : Bridge) → bridge_to board bus ≡ Some bridge → lanes_in board k.lanes bus ≡ Some (lanes_of world bus)
  lanes_there bus bridge is =
      let P : Option ℕ → Type 0 = λ p. place_of board bus ≡ p → lanes_at k.lanes p ≡ Some (lanes_of world bus) in
      (elim (place_of board bus) as P [
        | None ↦ λ none. let no_bridge : bridge_to board bus ≡ None = finds_none (λ (it : Bridge). it.bus == bus) board.bridges none in cc
        | Some place ↦ λ at. stands.lanes bus place at
      ]) refl

  quiet_there : (lane : BridgeLane) → place_of board lane.bus ≡ None → world lane ≡ empty_lane
  quiet_there lane none = Quiet-run_by rule board h lane (finds_none (λ (it : Bridge). it.bus == lane.bus) board.bridges none) stands.run

  -- the slot of the lane that claims
  claimed_slot : (on : ℕ) (by : By) (o : OpId) (step : Step) (place : Place) → answer_by_rule rule board h on by o ≡ Gives step place
      → (found_to rule board (Act on by o step place) (bus_at place) k.lanes).slot ≡ slot_at board on (noted rule by) o step place world
  claimed_slot on by o step (Target target) gives = refl
  claimed_slot on by o step (Header bus) gives = refl
  claimed_slot on by o step (Lane lane) gives =
      let e : Event = Act on by o step (Lane lane) in
      let at = answered_in board world h on (noted rule by) o step lane gives in
      ap (λ (found : Option Both). (found_at rule board e lane.bus found).slot) (lanes_there lane.bus at.bridge at.is_bridge)
      ∙ slot_there board on (noted rule by) o step lane world
  claimed_slot on by o step Nobody gives = refl

  -- what ends on the lane that presents
  ended_item : (on : ℕ) (lane : BridgeLane) (o : OpId) (step : Step) (place : Place) (lanes : List Both) → lanes_in board lanes lane.bus ≡ lanes_in board k.lanes lane.bus
      → (found_to rule board (Act on (ByLane lane) o step place) (Some lane.bus) lanes).item ≡ item_moved o (lane_outcome board lane o step) (world lane).standing
  ended_item on lane o step place lanes same =
      let item : Option Both → Option Carried = λ found. (found_at rule board (Act on (ByLane lane) o step place) lane.bus found).item in
      let outcome : Option Outcome = lane_outcome board lane o step in
      let P : Option ℕ → Type 0 = λ p. place_of board lane.bus ≡ p → item (lanes_at k.lanes p) ≡ item_moved o outcome (world lane).standing in
      ap item same ∙ (elim (place_of board lane.bus) as P [
        | None ↦ λ none. sym (ap (λ (x : LaneState). item_moved o outcome x.standing) (quiet_there lane none) ∙ item_none o outcome)
        | Some at ↦ λ there. ap item (stands.lanes lane.bus at there) ∙ item_there board o step lane world
      ]) refl

  -- it is on no other bridge
  item_elsewhere : (on : ℕ) (lane : BridgeLane) (o : OpId) (step : Step) (place : Place) (bus : ℕ) (found : Option Both) → (lane.bus == bus) ≡ false
      → (found_at rule board (Act on (ByLane lane) o step place) bus found).item ≡ None
  item_elsewhere on lane o step place bus None differ = refl
  item_elsewhere on lane o step place bus (Some x) differ = rw differ

  -- where the claim is on another bridge, the lanes are as they were
  lanes_apart : (e : Event) (first bus : ℕ) → (first == bus) ≡ false → lanes_in board (happens_on rule board e (Some first) k.lanes) bus ≡ lanes_in board k.lanes bus
  lanes_apart e first bus differ =
      let P : Option ℕ → Type 0 = λ p. place_of board bus ≡ p → lanes_at (happens_on rule board e (Some first) k.lanes) p ≡ lanes_at k.lanes p in
      (elim (place_of board bus) as P [
        | None ↦ λ _. refl
        | Some place ↦ λ at.
            let was = stands.lanes bus place at in
            let now = happened rule board e (Some first) k.lanes bus place (lanes_of world bus) at was in
            rw differ at now ∙ sym was
      ]) refl

  apart_too : (a b : ℕ) → (a == b) ≡ false → (b == a) ≡ false
  apart_too a b differ = grind (arith, nat_tests)

  item_found : (on : ℕ) (by : By) (o : OpId) (step : Step) (place : Place)
      → (found_next rule board (Act on by o step place) k.lanes).item ≡ item_by board by o step world
  item_found on Master o step (Target target) = refl
  item_found on Master o step (Header bus) = refl
  item_found on Master o step (Lane lane) =
      let P : Option Both → Type 0 = λ found. option_or (found_at rule board (Act on Master o step (Lane lane)) lane.bus found).item None ≡ None in
      elim (lanes_in board k.lanes lane.bus) as P [ None ↦ refl | Some x ↦ refl ]
  item_found on Master o step Nobody = refl
  item_found on (ByLane lane) o step (Target target) = ended_item on lane o step (Target target) k.lanes refl
  item_found on (ByLane lane) o step (Header bus) = ended_item on lane o step (Header bus) k.lanes refl
  item_found on (ByLane lane) o step (Lane at) =
      let e : Event = Act on (ByLane lane) o step (Lane at) in
      let first : Option Carried = (found_to rule board e (Some at.bus) k.lanes).item in
      let changed : List Both = happens_on rule board e (Some at.bus) k.lanes in
      let P : Bool → Type 0 = λ b. (at.bus == lane.bus) ≡ b → option_or first (found_to rule board e (if b then None else Some lane.bus) changed).item ≡ item_by board (ByLane lane) o step world in
      (elim (at.bus == lane.bus) as P [
        | true ↦ λ same.
            let one : at.bus ≡ lane.bus = grind (arith, nat_tests) in
            or_none first ∙ (ap (λ (n : ℕ). (found_to rule board e (Some n) k.lanes).item) one ∙ ended_item on lane o step (Lane at) k.lanes refl)
        | false ↦ λ differ.
            let none : first ≡ None = item_elsewhere on lane o step (Lane at) at.bus (lanes_in board k.lanes at.bus) (apart_too at.bus lane.bus differ) in
            ap (λ (it : Option Carried). option_or it (found_to rule board e (Some lane.bus) changed).item) none
            ∙ ended_item on lane o step (Lane at) changed (lanes_apart e at.bus lane.bus differ)
      ]) refl
  item_found on (ByLane lane) o step Nobody = ended_item on lane o step Nobody k.lanes refl

  came_found : (lane : BridgeLane) (item : Option Both → Option Carried) → (item None ≡ None) → (item (Some (lanes_of world lane.bus)) ≡ oldest (world lane).flight)
      → item (lanes_in board k.lanes lane.bus) ≡ oldest (world lane).flight
  came_found lane item nothing_there there =
      let P : Option ℕ → Type 0 = λ p. place_of board lane.bus ≡ p → item (lanes_at k.lanes p) ≡ oldest (world lane).flight in
      (elim (place_of board lane.bus) as P [
        | None ↦ λ none. nothing_there ∙ sym (ap (λ (x : LaneState). oldest x.flight) (quiet_there lane none))
        | Some place ↦ λ at. ap item (stands.lanes lane.bus place at) ∙ there
      ]) refl

  slot_none : (lane : BridgeLane) (mark : Mark) (found : Option Both) → (found_at rule board (Arrive lane mark) lane.bus found).slot ≡ None
  slot_none lane mark None = refl
  slot_none lane mark (Some x) = refl

  found_now : (e : Event) → AllowedBy rule board h e → found_next rule board e k.lanes ≡ moved_by rule board world e
  found_now (Act on by o step place) allowed =
      let e : Event = Act on by o step place in
      let pair : Option ℕ → Option Carried → Moved = λ slot item. record { slot = slot; item = item } in
      ap (λ slot. pair slot (found_next rule board e k.lanes).item) (claimed_slot on by o step place allowed.1)
      ∙ ap (pair (slot_at board on (noted rule by) o step place world)) (item_found on by o step place)
  found_now (Arrive lane mark) allowed =
      let e : Event = Arrive lane mark in
      let pair : Option ℕ → Option Carried → Moved = λ slot item. record { slot = slot; item = item } in
      let found : Option Both = lanes_in board k.lanes lane.bus in
      let item : Option Both → Option Carried = λ it. (found_at rule board e lane.bus it).item in
      ap (λ slot. pair slot (item found)) (slot_none lane mark found)
      ∙ ap (pair None) (came_found lane item refl (oldest_there lane world))

-- by the rule that is kept
pub found_same : (rule : Rule) (board : Board) (h : List Event) (k : KeptState) (e : Event) (found : Moved) → StandsForBy rule board h k → AllowedBy rule board h e
    → found ≡ found_next k.rule board e k.lanes → found ≡ moved_by rule board (world_by rule board h) e
found_same rule board h k e found stands allowed is =
    is ∙ (ap (λ (r : Rule). found_next r board e k.lanes) stands.rule_is ∙ found_now rule board h k stands e allowed)
