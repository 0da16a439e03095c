-- The two ends of a lane of a bridge are on two buses, and only such lanes carry anything.
use Rattle.std.proofs.Common.{◌≡◌, ◌≢◌, ℕ, Bool, true, false, ◌==◌, List, Option, Some, None, refl, sym, ap, ◌∙◌, arith, ◌<◌}
use Rattle.std.proofs.lemmas.Bool.{eqb-true}
use Rattle.list_facts.proofs.EachLemmas.{Each-find}
use Rattle.list_facts.proofs.FindLemmas.{find_passes}
use Rattle.pci_command.specs.declared.op_id.OpId.{OpId}
use Rattle.board_model.specs.Valid.{IsValid}
use Rattle.board_model.specs.Ways.{primary_in, primary_of, start_of, end_of}
use Rattle.board_model.specs.declared.board.Board.{Board}
use Rattle.board_model.specs.declared.bridge.Bridge.{Bridge}
use Rattle.board_model.specs.declared.bridge.Lane.{Lane as BridgeLane}
use Rattle.board_model.specs.declared.bridge.Place.{Place}
use Rattle.board_model.specs.declared.bridge.Place.TheVariants.{Lane}
use Rattle.board_model.specs.form_laws.Trees.{IsTree}
use Rattle.board_model.proofs.form_laws.Laws.{IsTree-valid}
use Rattle.history_model.specs.Answers.{answer_in, bridge_to}
use Rattle.history_model.specs.Lanes.{empty_lane}
use Rattle.history_model.specs.Runs.{Run}
use Rattle.history_model.specs.Words.{through, without}
use Rattle.history_model.specs.World.{World, world_of}
use Rattle.history_model.specs.declared.event.By.{By}
use Rattle.history_model.specs.declared.event.Event.{Event}
use Rattle.history_model.specs.declared.event.Event.TheVariants.{Act, Arrive}
use Rattle.history_model.specs.declared.event.Step.{Step}
use Rattle.history_model.specs.declared.item.Answer.TheVariants.{Gives}
use Rattle.history_model.proofs.facts.AnswerLemmas.{answered_in}
use Rattle.law_lanes.proofs.Laws.{claim_starts, Quiet-empty, run_no_bridge, WellFormed-numbers, WellFormed-single}
use Rattle.law_lanes.specs.Depths.{DifferentNumbers}
use Rattle.law_lanes.specs.Phases.{DelayedAreSingle}
use Rattle.law_lanes.specs.order.OnWay.{WritesHaveOneClaimant}
use Rattle.law_lanes.proofs.order.Laws.{OneClaimant-formed}

-- what is asked of a board here
pub record IsFit (board : Board) : Type 0 where
  pub tree : IsTree board
  pub distinct : DifferentNumbers board
  pub one : WritesHaveOneClaimant board
  pub single : DelayedAreSingle board

-- a valid board is fit
pub IsFit-valid : (board : Board) → IsValid board → IsFit board
IsFit-valid board valid = record {
  tree = IsTree-valid board valid;
  distinct = WellFormed-numbers board valid.well_formed;
  one = OneClaimant-formed board valid.well_formed;
  single = WellFormed-single board valid.well_formed;
}

-- an arrival is on a lane between two buses
abbrev pub IsApart : Board → Event → Type 0
IsApart board (Act bus by o step place) = Unit {0}
IsApart board (Arrive lane mark) = end_of board lane ≢ start_of board lane

-- the two ends of a bridge's lane are on different buses
pub lane_apart : (board : Board) (lane : BridgeLane) (bridge : Bridge) → IsTree board → bridge_to board lane.bus ≡ Some bridge → end_of board lane ≢ start_of board lane
lane_apart board lane bridge tree is =
    let number : bridge.bus ≡ lane.bus = eqb-true bridge.bus lane.bus (find_passes (λ (b : Bridge). b.bus == lane.bus) board.bridges bridge is) in
    let below : bridge.parent < bridge.bus = Each-find (λ (b : Bridge). b.parent < b.bus) (λ (b : Bridge). b.bus == lane.bus) board.bridges bridge tree.falls is in
    let primary : primary_of board lane.bus ≡ bridge.parent = ap primary_in is in
    let differ : primary_of board lane.bus ≢ lane.bus = λ same. absurd (omega (arith, number, below, primary, same)) in
    let P : Bool → Type 0 = λ up. end_of board (record { bus = lane.bus; up = up }) ≢ start_of board (record { bus = lane.bus; up = up }) in
    elim lane.up as P [ true ↦ differ | false ↦ λ same. differ (sym same) ]

-- something is on the lane only if it is one of a bridge
pub something_apart : (board : Board) (h : List Event) (lane : BridgeLane) → IsTree board → Run board h → (world_of board h lane ≡ empty_lane → ⊥) → end_of board lane ≢ start_of board lane
something_apart board h lane tree run some =
    let P : Option Bridge → Type 0 = λ found. bridge_to board lane.bus ≡ found → end_of board lane ≢ start_of board lane in
    (elim (bridge_to board lane.bus) as P [
      | None ↦ λ none. absurd (some (Quiet-empty board h lane (run_no_bridge board lane.bus h none run)))
      | Some bridge ↦ λ is. lane_apart board lane bridge tree is
    ]) refl

-- a lane that answers, with anything on the lanes, begins on the bus and does not end there
pub place_apart : (board : Board) (fit : IsFit board) (w : World) (p : List Event) (bus : ℕ) (by : By) (o : OpId) (step : Step) (place : Place) → answer_in board w p bus by o ≡ Gives step place
    → (lane : BridgeLane) → place ≡ Lane lane → (start_of board lane ≡ bus) × (end_of board lane ≢ bus)
place_apart board fit w p bus by o step place gives lane is =
    let at = answered_in board w p bus by o step lane (gives ∙ ap (Gives step) is) in
    let starts : start_of board lane ≡ bus = claim_starts board bus (without (through p o) at.request) lane fit.distinct at.claims in
    (starts, λ same. lane_apart board lane at.bridge fit.tree at.is_bridge (same ∙ sym starts))
