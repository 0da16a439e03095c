-- Nothing is ever on a lane of no bridge.
use Rattle.std.proofs.Common.{◌≡◌, ◌≢◌, ℕ, true, ◌==◌, List, [], ◌∷◌, Option, Some, None, refl, sym, ap, ◌∙◌}
use Rattle.std.proofs.lemmas.Bool.{and_parts}
use Rattle.pci_command.specs.declared.op_id.OpId.{OpId}
use Rattle.pci_command.specs.declared.op_id.Outcome.{Outcome}
use Rattle.board_model.specs.declared.bridge.Lane.{Lane as BridgeLane}
use Rattle.board_model.specs.declared.bridge.Place.{Place}
use Rattle.board_model.specs.declared.bridge.Place.TheVariants.{Target, Header, Lane, Nobody}
use Rattle.board_model.specs.declared.board.Board.{Board}
use Rattle.board_model.specs.Ways.{end_of}
use Rattle.history_model.specs.declared.event.By.{By}
use Rattle.history_model.specs.declared.event.By.TheVariants.{Master, Lane as ByLane}
use Rattle.history_model.specs.declared.event.Mark.{Mark}
use Rattle.history_model.specs.declared.event.Step.{Step}
use Rattle.history_model.specs.declared.event.Event.{Event}
use Rattle.history_model.specs.declared.event.Event.TheVariants.{Act, Arrive}
use Rattle.history_model.specs.declared.item.Carried.{Carried}
use Rattle.history_model.specs.declared.item.Answer.TheVariants.{Gives}
use Rattle.history_model.specs.Lanes.{LaneState, empty_lane, item_ends, arrives}
use Rattle.history_model.specs.World.{World, enters, lane_outcome, leaves, at_place, at_initiator}
use Rattle.history_model.specs.Answers.{bridge_to, presents, wants_in, answer_in}
use Rattle.history_model.specs.Runs.{mark_of_first}
use Rattle.history_model.specs.Local.{local_world, LocalRun}
use Rattle.history_model.proofs.facts.AnswerLemmas.{answered_in}
use Rattle.bus_core.proofs.port.MoveLemmas.{moved_apart}

module _ (board : Board) where
  -- a lane of no bridge is not one of a bridge
  differ_bus : (l lane : BridgeLane) → bridge_to board l.bus ≡ None → (bridge_to board lane.bus ≡ None → ⊥) → l.bus ≢ lane.bus
  differ_bus l lane none some same = some (ap (bridge_to board) (sym same) ∙ none)

  place_leaves : (w : World) (p : List Event) (bus : ℕ) (by : By) (o : OpId) (step : Step) (place : Place) (l : BridgeLane) → bridge_to board l.bus ≡ None → answer_in board w p bus by o ≡ Gives step place
      → at_place board bus by o step place w l ≡ w l
  place_leaves w p bus by o step (Target t) l none is = refl
  place_leaves w p bus by o step (Header n) l none is = refl
  place_leaves w p bus by o step (Lane k) l none is =
      let at = answered_in board w p bus by o step k is in
      moved_apart (enters board bus by o step) k w l (differ_bus l k none (λ e. let wrong = sym at.is_bridge ∙ e in cc))
  place_leaves w p bus by o step Nobody l none is = refl

  ended_leaves : (w : World) (j : BridgeLane) (o : OpId) (outcome : Option Outcome) (l : BridgeLane) → l.bus ≢ j.bus → leaves j o outcome w l ≡ w l
  ended_leaves w j o None l apart = refl
  ended_leaves w j o (Some outcome) l apart = moved_apart (item_ends o outcome) j w l apart

  -- nothing is presented by an empty lane
  empty_presents : (bus : ℕ) (o : OpId) (standing : List Carried) → presents board bus o standing ≡ true → standing ≢ []
  empty_presents bus o [] is = λ _. cc
  empty_presents bus o (item ∷ standing) is = λ e. cc

  some_flies : (lane : BridgeLane) (s : LaneState) (flight : List Carried) (mark : Mark) → mark_of_first board lane s flight ≡ Some mark → flight ≢ []
  some_flies lane s [] mark is = λ _. cc
  some_flies lane s (item ∷ rest) mark is = λ e. cc

  pub none_elsewhere : (bus : ℕ) (came : BridgeLane → List Carried) → ((lane : BridgeLane) → bridge_to board lane.bus ≡ None → came lane ≡ []) → (p : List Event) → LocalRun board bus came p
      → (l : BridgeLane) → bridge_to board l.bus ≡ None → local_world board came p l ≡ empty_lane
  none_elsewhere bus came bridges [] run l none = ap (λ (flight : List Carried). record empty_lane { flight = flight }) (bridges l none)
  none_elsewhere bus came bridges (Act on by o step place ∷ p) run l none =
      let w : World = local_world board came p in
      let old : (k : BridgeLane) → bridge_to board k.bus ≡ None → w k ≡ empty_lane = none_elsewhere bus came bridges p run.2 in
      let mid : World = at_place board on by o step place w in
      let at : mid l ≡ w l = place_leaves w p on by o step place l none run.1.1 in
      let P : By → Type 0 = λ b. wants_in board w p on b o ≡ true → at_initiator board b o step mid l ≡ mid l in
      let told : at_initiator board by o step mid l ≡ mid l = (elim by as P [
        | Master ↦ λ _. refl
        | ByLane j ↦ λ wanted.
            let shown = (and_parts (end_of board j == on) (presents board on o (w j).standing) wanted).1 in
            let there : bridge_to board j.bus ≡ None → ⊥ = λ gone. empty_presents on o (w j).standing shown (ap (λ (s : LaneState). s.standing) (old j gone)) in
            ended_leaves mid j o (lane_outcome board j o step) l (differ_bus l j none there)
      ]) run.1.0 in
      told ∙ (at ∙ old l none)
  none_elsewhere bus came bridges (Arrive lane mark ∷ p) run l none =
      let w : World = local_world board came p in
      let old : (k : BridgeLane) → bridge_to board k.bus ≡ None → w k ≡ empty_lane = none_elsewhere bus came bridges p run.2 in
      let there : bridge_to board lane.bus ≡ None → ⊥ = λ gone. some_flies lane (w lane) (w lane).flight mark run.1 (ap (λ (s : LaneState). s.flight) (old lane gone)) in
      moved_apart (arrives mark) lane w l (differ_bus l lane none there) ∙ old l none
