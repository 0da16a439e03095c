-- An act that is allowed on two worlds whose lanes carry the same, whatever the numbers of the slots, leaves such worlds.
use Rattle.std.proofs.Common.{◌≡◌, ℕ, true, List, Option, Some, None, refl, sym, subst}
use Rattle.std.specs.List.{find}
use Rattle.list_facts.specs.Lists.{less}
use Rattle.pci_command.specs.declared.op_id.OpId.{OpId}
use Rattle.pci_command.specs.declared.op_id.Outcome.{Outcome}
use Rattle.board_model.specs.declared.bridge.Lane.{Lane as BridgeLane}
use Rattle.board_model.specs.declared.bridge.Place.{Place}
use Rattle.board_model.specs.declared.bridge.Place.TheVariants.{Target, Header, Lane, Nobody}
use Rattle.board_model.specs.declared.board.Board.{Board}
use Rattle.board_model.specs.Ways.{lane_back}
use Rattle.history_model.specs.declared.event.By.{By}
use Rattle.history_model.specs.declared.event.By.TheVariants.{Master, Lane as ByLane}
use Rattle.history_model.specs.declared.event.Step.{Step}
use Rattle.history_model.specs.declared.event.Step.TheVariants.{Land, Part, Read, Accept, Latch, Take, Stall, MasterAbort, TargetAbort}
use Rattle.history_model.specs.declared.event.Event.{Event}
use Rattle.history_model.specs.declared.event.Event.TheVariants.{Act}
use Rattle.history_model.specs.declared.item.Slot.{Slot}
use Rattle.history_model.specs.declared.rule.Rule.{Rule}
use Rattle.history_model.specs.Lanes.{Both, is_of, is_done_for, item_ends}
use Rattle.history_model.specs.World.{World, both, is_own, slot_found, enters, at_place, lane_outcome, leaves, noted, after_by}
use Rattle.history_model.specs.Answers.{wants_in_by}
use Rattle.law_early.proofs.StandLemmas.{Finds}
use Rattle.law_early.proofs.StandLemmas.{wants_finds, still_finds}
use Rattle.law_early.proofs.CargoLemmas.{is_done_of, AllAlike, AlikeBoth, post_alike, ask_alike, ends_alike, taken_alike, moved_alike}

-- a completion is taken: the first that stands of this operation
pub record TakesFirst (board : Board) (world : World) (on : ℕ) (by : By) (o : OpId) (lane : BridgeLane) (op : OpId) : Type 0 where
  pub slot : Slot
  pub is_own_slot : find (is_own board on by o) (world lane).held ≡ Some slot
  pub stands : Finds (is_done_of op) (world (lane_back lane)).standing
  pub first : less (is_done_for slot.number) (world (lane_back lane)).standing ≡ less (is_done_of op) (world (lane_back lane)).standing

-- of the same operation in two worlds
pub record BothTake (board : Board) (x y : World) (on : ℕ) (by : By) (o : OpId) (lane : BridgeLane) : Type 0 where
  pub op : OpId
  pub one : TakesFirst board x on by o lane op
  pub other : TakesFirst board y on by o lane op

-- so it is of a step at a place, where it takes one
abbrev pub TakesAt : Board → World → World → ℕ → By → OpId → Step → Place → Type 0
TakesAt board x y on by o step place = (outcome : Outcome) (lane : BridgeLane) → step ≡ Take outcome → place ≡ Lane lane → BothTake board x y on by o lane

both_alike : (board : Board) (x y : World) (lane : BridgeLane) → AllAlike board x y → AlikeBoth board lane (both x lane) (both y lane)
both_alike board x y lane all = record { here = all lane; back = all (lane_back lane) }

module _ (board : Board) (on : ℕ) (by : By) (o : OpId) (x y : World) (all : AllAlike board x y) where
  take_alike : (lane : BridgeLane) → BothTake board x y on by o lane
      → AlikeBoth board lane (slot_found (find (is_own board on by o) (x lane).held) (both x lane)) (slot_found (find (is_own board on by o) (y lane).held) (both y lane))
  take_alike lane both_take =
      let tx = both_take.one in
      let ty = both_take.other in
      let X : Both = both x lane in
      let Y : Both = both y lane in
      let own : Option Slot = find (is_own board on by o) (y lane).held in
      let taken = taken_alike board lane X Y (both_alike board x y lane all) both_take.op tx.slot.number ty.slot.number tx.stands ty.stands tx.first ty.first in
      let there : AlikeBoth board lane (slot_found (Some tx.slot) X) (slot_found own Y) = subst (λ s. AlikeBoth board lane (slot_found (Some tx.slot) X) (slot_found s Y)) (sym ty.is_own_slot) taken in
      subst (λ s. AlikeBoth board lane (slot_found s X) (slot_found own Y)) (sym tx.is_own_slot) there

  enters_alike : (step : Step) (lane : BridgeLane) → TakesAt board x y on by o step (Lane lane)
      → AlikeBoth board lane (enters board on by o step (both x lane)) (enters board on by o step (both y lane))
  enters_alike Land lane takes = both_alike board x y lane all
  enters_alike (Part phases) lane takes = both_alike board x y lane all
  enters_alike (Read value) lane takes = both_alike board x y lane all
  enters_alike Accept lane takes = post_alike board lane (both x lane) (both y lane) (both_alike board x y lane all) o
  enters_alike Latch lane takes = ask_alike board lane (both x lane) (both y lane) (both_alike board x y lane all) by o
  enters_alike (Take outcome) lane takes = take_alike lane (takes outcome lane refl refl)
  enters_alike Stall lane takes = both_alike board x y lane all
  enters_alike MasterAbort lane takes = both_alike board x y lane all
  enters_alike TargetAbort lane takes = both_alike board x y lane all

  place_alike : (step : Step) (place : Place) → TakesAt board x y on by o step place → AllAlike board (at_place board on by o step place x) (at_place board on by o step place y)
  place_alike step (Target target) takes = all
  place_alike step (Header bus) takes = all
  place_alike step (Lane lane) takes = moved_alike board (enters board on by o step) (enters board on by o step) lane x y all (enters_alike step lane takes)
  place_alike step Nobody takes = all

leaves_alike : (board : Board) (x y : World) (lane : BridgeLane) (o : OpId) (outcome : Option Outcome) → Finds (is_of o) (x lane).standing → Finds (is_of o) (y lane).standing → AllAlike board x y → AllAlike board (leaves lane o outcome x) (leaves lane o outcome y)
leaves_alike board x y lane o None fx fy all = all
leaves_alike board x y lane o (Some outcome) fx fy all =
    moved_alike board (item_ends o outcome) (item_ends o outcome) lane x y all (ends_alike board lane (both x lane) (both y lane) (both_alike board x y lane all) o outcome fx fy)

pub act_alike : (rule : Rule) (board : Board) (x y : World) (g h : List Event) (on : ℕ) (by : By) (o : OpId) (step : Step) (place : Place)
    → wants_in_by rule board x g on by o ≡ true → wants_in_by rule board y h on by o ≡ true → TakesAt board x y on (noted rule by) o step place
    → AllAlike board x y → AllAlike board (after_by rule board x (Act on by o step place)) (after_by rule board y (Act on by o step place))
act_alike rule board x y g h on Master o step place wx wy takes all = place_alike board on (noted rule Master) o x y all step place takes
act_alike rule board x y g h on (ByLane lane) o step place wx wy takes all =
    let by : By = noted rule (ByLane lane) in
    leaves_alike board (at_place board on by o step place x) (at_place board on by o step place y) lane o (lane_outcome board lane o step)
    (still_finds board on by o o step place x lane (wants_finds rule board x g on lane o wx))
    (still_finds board on by o o step place y lane (wants_finds rule board y h on lane o wy))
    (place_alike board on by o x y all step place takes)
