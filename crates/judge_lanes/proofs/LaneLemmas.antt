-- An event changes the lanes of a bridge by what is on them alone.
use Rattle.std.proofs.Common.{◌≡◌, ℕ, Bool, true, false, not, sym, ◌==◌, if◌then◌else◌, refl, ap, subst, ◌∙◌, arith, None, Some, Option}
use Rattle.std.proofs.lemmas.Bool.Decides.{nat_tests}
use Rattle.pci_command.specs.declared.op_id.OpId.{OpId}
use Rattle.pci_command.specs.declared.op_id.Outcome.{Outcome}
use Rattle.board_model.specs.declared.bridge.Lane.{Lane as BridgeLane}
use Rattle.board_model.specs.declared.bridge.Place.{Place}
use Rattle.board_model.specs.declared.bridge.Place.TheVariants.{Target, Header, Lane, Nobody}
use Rattle.board_model.specs.declared.board.Board.{Board}
use Rattle.history_model.specs.declared.event.By.{By}
use Rattle.history_model.specs.declared.event.By.TheVariants.{Master, Lane as ByLane}
use Rattle.history_model.specs.declared.event.Step.{Step}
use Rattle.history_model.specs.declared.event.Event.{Event}
use Rattle.history_model.specs.declared.event.Event.TheVariants.{Act, Arrive}
use Rattle.history_model.specs.Lanes.{Both, item_ends, arrives}
use Rattle.history_model.specs.declared.rule.Rule.{Rule}
use Rattle.history_model.specs.World.{World, both, put, moved, noted, enters, at_place, lane_outcome, leaves, at_initiator, after_by}
use Rattle.board_model.specs.Ways.{lane_back}
use Rattle.judge_lanes.specs.Bridge.{lanes_of, turned, moved_on, place_on, leaves_on, initiator_on, lanes_after}

-- the same number, either way round
numbers_alike : (a b : ℕ) (test : Bool) → (a == b) ≡ test → (b == a) ≡ test
numbers_alike a b true same = grind (arith, nat_tests)
numbers_alike a b false differ = grind (arith, nat_tests)

-- what is put on a bridge, the lane in that direction first, is on its lanes
put_same : (world : World) (bus : ℕ) (up : Bool) (x : Both) → lanes_of (put world (record { bus = bus; up = up }) x) bus ≡ turned up x
put_same world bus true x = let same : (bus == bus) ≡ true = grind (arith, nat_tests) in rw same
put_same world bus false x = let same : (bus == bus) ≡ true = grind (arith, nat_tests) in rw same

-- and on no other lane
put_other : (world : World) (bus other : ℕ) (up : Bool) (x : Both) → (other == bus) ≡ false → lanes_of (put world (record { bus = bus; up = up }) x) other ≡ lanes_of world other
put_other world bus other up x differ = rw differ

-- the lanes of a bridge, from the lane in that direction
both_turned : (world : World) (bus : ℕ) (up : Bool) → both world (record { bus = bus; up = up }) ≡ turned up (lanes_of world bus)
both_turned world bus true = refl
both_turned world bus false = refl

-- a move of a lane
lanes_moved : (move : Both → Both) (lane : BridgeLane) (world : World) (bus : ℕ) → lanes_of (moved move lane world) bus ≡ moved_on move lane bus (lanes_of world bus)
lanes_moved move lane world bus =
    let x : Both = move (both world lane) in
    let P : Bool → Type 0 = λ b. (lane.bus == bus) ≡ b →
    lanes_of (put world lane x) bus ≡ (if b then turned lane.up (move (turned lane.up (lanes_of world bus))) else lanes_of world bus) in
    (elim (lane.bus == bus) as P [
      | true ↦ λ same.
          let is : lane.bus ≡ bus = grind (arith, nat_tests) in
          let Q : ℕ → Type 0 = λ n. lanes_of (put world lane x) n ≡ turned lane.up (move (turned lane.up (lanes_of world n))) in
          subst Q is (put_same world lane.bus lane.up x ∙ ap (λ y. turned lane.up (move y)) (both_turned world lane.bus lane.up))
      | false ↦ λ differ. put_other world lane.bus bus lane.up x (numbers_alike lane.bus bus false differ)
    ]) refl

-- what a step does at its place
lanes_at_place : (board : Board) (on : ℕ) (by : By) (o : OpId) (step : Step) (place : Place) (world : World) (bus : ℕ) →
    lanes_of (at_place board on by o step place world) bus ≡ place_on board on by o step place bus (lanes_of world bus)
lanes_at_place board on by o step (Target target) world bus = refl
lanes_at_place board on by o step (Header number) world bus = refl
lanes_at_place board on by o step (Lane lane) world bus = lanes_moved (enters board on by o step) lane world bus
lanes_at_place board on by o step Nobody world bus = refl

lanes_leaves : (lane : BridgeLane) (o : OpId) (outcome : Option Outcome) (world : World) (bus : ℕ) →
    lanes_of (leaves lane o outcome world) bus ≡ leaves_on lane o outcome bus (lanes_of world bus)
lanes_leaves lane o None world bus = refl
lanes_leaves lane o (Some outcome) world bus = lanes_moved (item_ends o outcome) lane world bus

-- what it does at its initiator
lanes_at_initiator : (board : Board) (by : By) (o : OpId) (step : Step) (world : World) (bus : ℕ) →
    lanes_of (at_initiator board by o step world) bus ≡ initiator_on board by o step bus (lanes_of world bus)
lanes_at_initiator board Master o step world bus = refl
lanes_at_initiator board (ByLane lane) o step world bus = lanes_leaves lane o (lane_outcome board lane o step) world bus

-- the lanes of a bridge after one more event
pub lanes_after_event : (rule : Rule) (board : Board) (world : World) (e : Event) (bus : ℕ) → lanes_of (after_by rule board world e) bus ≡ lanes_after rule board e bus (lanes_of world bus)
lanes_after_event rule board world (Act on by o step place) bus =
    lanes_at_initiator board by o step (at_place board on (noted rule by) o step place world) bus
    ∙ ap (initiator_on board by o step bus) (lanes_at_place board on (noted rule by) o step place world bus)
lanes_after_event rule board world (Arrive lane mark) bus = lanes_moved (arrives mark) lane world bus

-- a lane of a bridge, and the lane back, among both
pub lane_there : (world : World) (lane : BridgeLane) (x : Both) → x ≡ both world (record { bus = lane.bus; up = false }) →
    ((turned lane.up x).here ≡ world lane) × ((turned (not lane.up) x).here ≡ world (lane_back lane))
lane_there world lane x is =
    let y : Both = both world (record { bus = lane.bus; up = false }) in
    let P : Bool → Type 0 = λ up.
    ((turned up y).here ≡ world (record { bus = lane.bus; up = up })) × ((turned (not up) y).here ≡ world (record { bus = lane.bus; up = not up })) in
    let Q : Both → Type 0 = λ z. ((turned lane.up z).here ≡ world lane) × ((turned (not lane.up) z).here ≡ world (lane_back lane)) in
    subst Q (sym is) (elim lane.up as P [ true ↦ (refl, refl) | false ↦ (refl, refl) ])

-- the lane back is the first of the lanes turned the other way
pub turned_back : (up : Bool) (x : Both) → (turned up x).back ≡ (turned (not up) x).here
turned_back true x = refl
turned_back false x = refl
