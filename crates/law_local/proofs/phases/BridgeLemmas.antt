-- A bus does nothing on a lane of no bridge.
use Rattle.std.proofs.Common.{◌≡◌, ℕ, ◌==◌, Bool, true, false, List, [], ◌∷◌, Option, Some, None, refl, sym, ap, subst, ◌∙◌}
use Rattle.std.proofs.lemmas.Bool.{and_parts}
use Rattle.pci_command.specs.declared.op_id.OpId.{OpId}
use Rattle.pci_command.specs.declared.op_id.Outcome.{Outcome}
use Rattle.board_model.specs.declared.bridge.Bridge.{Bridge}
use Rattle.board_model.specs.declared.bridge.Lane.{Lane as BridgeLane}
use Rattle.board_model.specs.declared.bridge.Place.{Place}
use Rattle.board_model.specs.declared.bridge.Place.TheVariants.{Target, Header, Lane, Nobody}
use Rattle.board_model.specs.declared.board.Board.{Board}
use Rattle.board_model.specs.Ways.{end_of, lane_back}
use Rattle.history_model.specs.declared.event.By.{By}
use Rattle.history_model.specs.declared.event.By.TheVariants.{Master, Lane as ByLane}
use Rattle.history_model.specs.declared.event.Event.{Event}
use Rattle.history_model.specs.declared.event.Event.TheVariants.{Act, Arrive}
use Rattle.history_model.specs.declared.event.Mark.{Mark}
use Rattle.history_model.specs.declared.event.Step.{Step}
use Rattle.history_model.specs.declared.item.Carried.{Carried}
use Rattle.history_model.specs.declared.item.Answer.TheVariants.{Gives}
use Rattle.history_model.specs.Lanes.{LaneState, item_ends, arrives}
use Rattle.history_model.specs.World.{World, same_lane, enters, at_place, lane_outcome, leaves, at_initiator, moved}
use Rattle.history_model.specs.Answers.{presents, wants_in, answer_in, bridge_to}
use Rattle.history_model.specs.Runs.{mark_of_first, next_mark_in}
use Rattle.history_model.specs.Local.{coming, local_world, AllowedLocally, LocalRun}
use Rattle.history_model.proofs.facts.AnswerLemmas.{answered_in}
use Rattle.history_model.proofs.facts.BridgeLemmas.{same_lane_true}
use Rattle.law_local.proofs.Laws.{moved_other}

-- a lane of no bridge is none of a bridge
no_lane : (board : Board) (l k : BridgeLane) (bridge : Bridge) → bridge_to board l.bus ≡ None → bridge_to board k.bus ≡ Some bridge → same_lane l k ≡ false
no_lane board l k bridge none some =
    let P : Bool → Type 0 = λ b. same_lane l k ≡ b → b ≡ false in
    (elim (same_lane l k) as P [
      | true ↦ λ same. let wrong : None ≡ Some bridge = sym none ∙ ap (λ (j : BridgeLane). bridge_to board j.bus) (same_lane_true l k same) ∙ some in cc
      | false ↦ λ _. refl
    ]) refl

module _ (board : Board) (came : BridgeLane → List Carried) (nothing : (l : BridgeLane) → bridge_to board l.bus ≡ None → came l ≡ []) where
  -- on lanes of no bridge nothing but what comes there
  abbrev IsUntouched : World → Type 0
  IsUntouched w = (l : BridgeLane) → bridge_to board l.bus ≡ None → w l ≡ coming came l

  place_leaves : (w : World) (p : List Event) (on : ℕ) (by : By) (o : OpId) (step : Step) (place : Place) → answer_in board w p on by o ≡ Gives step place
      → (l : BridgeLane) → bridge_to board l.bus ≡ None → at_place board on by o step place w l ≡ w l
  place_leaves w p on by o step (Target target) gives l none = refl
  place_leaves w p on by o step (Header number) gives l none = refl
  place_leaves w p on by o step (Lane lane) gives l none =
      let at = answered_in board w p on by o step lane gives in
      moved_other (enters board on by o step) lane w l (no_lane board l lane at.bridge none at.is_bridge) (no_lane board l (lane_back lane) at.bridge none at.is_bridge)
  place_leaves w p on by o step Nobody gives l none = refl

  leaves_other : (v : World) (k : BridgeLane) (o : OpId) (outcome : Option Outcome) (bridge : Bridge) → bridge_to board k.bus ≡ Some bridge → (l : BridgeLane) → bridge_to board l.bus ≡ None → leaves k o outcome v l ≡ v l
  leaves_other v k o None bridge some l none = refl
  leaves_other v k o (Some outcome) bridge some l none = moved_other (item_ends o outcome) k v l (no_lane board l k bridge none some) (no_lane board l (lane_back k) bridge none some)

  initiator_leaves : (w v : World) (p : List Event) (on : ℕ) (by : By) (o : OpId) (step : Step) → IsUntouched w → wants_in board w p on by o ≡ true
      → (l : BridgeLane) → bridge_to board l.bus ≡ None → at_initiator board by o step v l ≡ v l
  initiator_leaves w v p on Master o step old wanted l none = refl
  initiator_leaves w v p on (ByLane k) o step old wanted l none =
      let P : Option Bridge → Type 0 = λ found. bridge_to board k.bus ≡ found → leaves k o (lane_outcome board k o step) v l ≡ v l in
      (elim (bridge_to board k.bus) as P [
        | None ↦ λ missing.
            let shows : presents board on o (w k).standing ≡ true = (and_parts (end_of board k == on) (presents board on o (w k).standing) wanted).1 in
            let wrong : false ≡ true = subst (λ (s : LaneState). presents board on o s.standing ≡ true) (old k missing) shows in cc
        | Some bridge ↦ λ some. leaves_other v k o (lane_outcome board k o step) bridge some l none
      ]) refl

  arrive_leaves : (w : World) (k : BridgeLane) (mark : Mark) → IsUntouched w → next_mark_in board w k ≡ Some mark → (l : BridgeLane) → bridge_to board l.bus ≡ None → moved (arrives mark) k w l ≡ w l
  arrive_leaves w k mark old marked l none =
      let P : Option Bridge → Type 0 = λ found. bridge_to board k.bus ≡ found → moved (arrives mark) k w l ≡ w l in
      (elim (bridge_to board k.bus) as P [
        | None ↦ λ missing.
            let empty : (w k).flight ≡ [] = ap (λ (s : LaneState). s.flight) (old k missing) ∙ nothing k missing in
            let wrong : None ≡ Some mark = subst (λ (flight : List Carried). mark_of_first board k (w k) flight ≡ Some mark) empty marked in cc
        | Some bridge ↦ λ some. moved_other (arrives mark) k w l (no_lane board l k bridge none some) (no_lane board l (lane_back k) bridge none some)
      ]) refl

  event_leaves : (p : List Event) (e : Event) → AllowedLocally board came p e → IsUntouched (local_world board came p) → IsUntouched (local_world board came (e ∷ p))
  event_leaves p (Act on by o step place) allowed old = λ l none.
      let w : World = local_world board came p in
      initiator_leaves w (at_place board on by o step place w) p on by o step old allowed.0 l none ∙ (place_leaves w p on by o step place allowed.1 l none ∙ old l none)
  event_leaves p (Arrive k mark) allowed old = λ l none. arrive_leaves (local_world board came p) k mark old allowed l none ∙ old l none

  pub untouched : (bus : ℕ) (p : List Event) → LocalRun board bus came p → (l : BridgeLane) → bridge_to board l.bus ≡ None → local_world board came p l ≡ coming came l
  untouched bus [] run l none = refl
  untouched bus (e ∷ p) run l none = event_leaves p e run.1 (untouched bus p run.2) l none
