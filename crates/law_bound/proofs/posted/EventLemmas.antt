-- Each event of a posted write, each arrival of one or of a credit, and each stall lowers what is left.
use Rattle.std.proofs.Common.{◌≡◌, ℕ, ◌+◌, ◌≤◌, Bool, true, false, ◌||◌, List, ◌∷◌, length, refl}
use Rattle.pci_command.specs.declared.op_id.OpId.{OpId}
use Rattle.board_model.specs.declared.bridge.Place.{Place}
use Rattle.board_model.specs.declared.board.Board.{Board}
use Rattle.board_model.specs.Requests.{phases_of}
use Rattle.board_model.specs.Valid.{IsValid}
use Rattle.history_model.specs.declared.event.By.{By}
use Rattle.history_model.specs.declared.event.By.TheVariants.{Master, Lane as ByLane}
use Rattle.history_model.specs.declared.event.Step.{Step}
use Rattle.history_model.specs.declared.event.Step.TheVariants.{Land, Part, Read, Accept, Latch, Take, Stall, MasterAbort, TargetAbort}
use Rattle.history_model.specs.declared.event.Event.{Event}
use Rattle.history_model.specs.declared.event.Event.TheVariants.{Act, Arrive}
use Rattle.history_model.specs.World.{world_of}
use Rattle.history_model.specs.Runs.{Allowed, Run}
use Rattle.history_model.specs.Left.{left_of}
use Rattle.law_lanes.specs.order.Order.{is_posted_op}
use Rattle.history_model.specs.Steps.{is_stall}
use Rattle.law_bound.specs.posted.PostedEvents.{IsPostedEvent}
use Rattle.law_bound.proofs.posted.TurnLemmas.{slots_turn}
use Rattle.law_bound.proofs.posted.FormLemmas.{op_some}
use Rattle.law_bound.proofs.posted.FitLemmas.{Fit, Fit-valid}
use Rattle.law_bound.proofs.posted.PostLemmas.{posted_op}
use Rattle.law_bound.proofs.posted.StallLemmas.{stalls_lower}
use Rattle.law_bound.proofs.posted.ArrivalLemmas.{arrivals_lower}
use Rattle.law_bound.proofs.posted.LaneLemmas.{lanes_lower}
use Rattle.law_bound.proofs.posted.MasterLemmas.{masters_lower}

-- a step that is a stall
only_stall : (step : Step) → is_stall step ≡ true → step ≡ Stall
only_stall Land is = cc
only_stall (Part phases) is = cc
only_stall (Read value) is = cc
only_stall Accept is = cc
only_stall Latch is = cc
only_stall (Take outcome) is = cc
only_stall Stall is = refl
only_stall MasterAbort is = cc
only_stall TargetAbort is = cc

module _ (board : Board) (valid : IsValid board) (h : List Event) (run : Run board h) where
  -- an act of a write in memory, by whom it is presented
  posted_acts : (on : ℕ) (by : By) (o : OpId) (step : Step) (place : Place) → is_posted_op board o ≡ true → Allowed board h (Act on by o step place) → left_of board (Act on by o step place ∷ h) + 1 ≤ left_of board h
  posted_acts on Master o step place posted allowed =
      let fit : Fit board = Fit-valid board valid in
      let there = posted_op board o posted in
      let some : 1 ≤ length (phases_of there.op) = op_some board o there.op valid.well_formed there.is_op in
      masters_lower board fit h run (λ l. slots_turn board h l valid run) o there.op there.is_op posted some on allowed.0 step place allowed.1
  posted_acts on (ByLane lane) o step place posted allowed =
      let fit : Fit board = Fit-valid board valid in
      let there = posted_op board o posted in
      let some : 1 ≤ length (phases_of there.op) = op_some board o there.op valid.well_formed there.is_op in
      lanes_lower board fit h run o there.op there.is_op posted some on lane allowed.0 step place allowed.1

  -- a stall of any operation
  stalls_of_any : (on : ℕ) (by : By) (o : OpId) (step : Step) (place : Place) → step ≡ Stall → Allowed board h (Act on by o step place) → left_of board (Act on by o step place ∷ h) + 1 ≤ left_of board h
  stalls_of_any on by o Land place is allowed = cc
  stalls_of_any on by o (Part phases) place is allowed = cc
  stalls_of_any on by o (Read value) place is allowed = cc
  stalls_of_any on by o Accept place is allowed = cc
  stalls_of_any on by o Latch place is allowed = cc
  stalls_of_any on by o (Take outcome) place is allowed = cc
  stalls_of_any on by o Stall place is allowed = stalls_lower board h on by o place allowed.1
  stalls_of_any on by o MasterAbort place is allowed = cc
  stalls_of_any on by o TargetAbort place is allowed = cc

  -- each of these events
  pub events_lower : (e : Event) → Allowed board h e → IsPostedEvent board h e → left_of board (e ∷ h) + 1 ≤ left_of board h
  events_lower (Act on by o step place) allowed is =
      let P : Bool → Type 0 = λ b. is_stall step ≡ b → (b || is_posted_op board o) ≡ true → left_of board (Act on by o step place ∷ h) + 1 ≤ left_of board h in
      (elim (is_stall step) as P [
        | true ↦ λ stall _. stalls_of_any on by o step place (only_stall step stall) allowed
        | false ↦ λ _ posted. posted_acts on by o step place posted allowed
      ]) refl is
  events_lower (Arrive lane mark) allowed is = arrivals_lower board h run (Fit-valid board valid).distinct lane mark (world_of board h lane).flight refl is
