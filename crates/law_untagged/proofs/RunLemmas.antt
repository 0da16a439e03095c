-- On boards on which masters are apart bridges need not keep local masters: the runs are the same.
use Rattle.std.proofs.Common.{◌≡◌, ℕ, Bool, true, List, [], ◌∷◌, Option, Some, None, refl, sym, ap, subst, ◌∙◌}
use Rattle.pci_command.specs.declared.op_id.OpId.{OpId}
use Rattle.pci_command.specs.declared.op_id.Outcome.{Outcome}
use Rattle.board_model.specs.declared.bridge.Lane.{Lane as BridgeLane}
use Rattle.board_model.specs.declared.bridge.Place.{Place}
use Rattle.board_model.specs.declared.bridge.Place.TheVariants.{Target, Header, Lane, Nobody}
use Rattle.board_model.specs.declared.op.Op.{Op}
use Rattle.board_model.specs.declared.board.Board.{Board}
use Rattle.board_model.specs.Requests.{op_of}
use Rattle.board_model.specs.WellFormed.{is_well_formed_op}
use Rattle.board_model.specs.form_laws.Trees.{IsTree}
use Rattle.history_model.specs.declared.event.By.{By}
use Rattle.history_model.specs.declared.event.By.TheVariants.{Master, Lane as ByLane}
use Rattle.history_model.specs.declared.event.Mark.{Mark}
use Rattle.history_model.specs.declared.event.Step.{Step}
use Rattle.history_model.specs.declared.event.Step.TheVariants.{Take}
use Rattle.history_model.specs.declared.event.Event.{Event}
use Rattle.history_model.specs.declared.event.Event.TheVariants.{Act, Arrive}
use Rattle.history_model.specs.declared.item.Carried.{Carried}
use Rattle.history_model.specs.declared.item.Carried.TheVariants.{Post, Ask, Done, Room, Gone}
use Rattle.history_model.specs.declared.item.Answer.TheVariants.{Gives}
use Rattle.history_model.specs.declared.rule.Rule.TheVariants.{Untagged}
use Rattle.history_model.specs.Lanes.{LaneState}
use Rattle.history_model.specs.World.{anyone, World, both, enters, at_place, at_initiator, lane_outcome, after, world_of, world_by}
use Rattle.history_model.specs.Answers.{wants, answer, answer_by_rule, wants_by}
use Rattle.history_model.specs.Runs.{mark_of_first, next_mark_in, Allowed, Run}
use Rattle.law_lanes.specs.Depths.{DifferentNumbers}
use Rattle.law_lanes.specs.Phases.{DelayedAreSingle}
use Rattle.history_model.proofs.facts.AnswerLemmas.{Gives_at, answered_at}
use Rattle.law_untagged.specs.Untagged.{UntaggedAllowed, UntaggedRun}
use Rattle.law_untagged.specs.Apart.{Apart}
use Rattle.law_untagged.specs.Forgets.{forget}
use Rattle.law_untagged.proofs.ForgetLemmas.{Alike, Forgets, enters_forget, moved_forget, leaves_forget, arrival_forget}
use Rattle.law_untagged.proofs.StepLemmas.{answer_forget, wants_forget}
use Rattle.law_untagged.proofs.ApartLemmas.{presented_alike, none_same}

mark_forget : (board : Board) (lane : BridgeLane) (state : LaneState) (flight : List Carried) → mark_of_first board lane (forget state) flight ≡ mark_of_first board lane state flight
mark_forget board lane state [] = refl
mark_forget board lane state (Post op ∷ rest) = refl
mark_forget board lane state (Ask op slot ∷ rest) = refl
mark_forget board lane state (Done op slot outcome ∷ rest) = refl
mark_forget board lane state (Room ∷ rest) = refl
mark_forget board lane state (Gone slot ∷ rest) = refl

next_forget : (board : Board) (plain world : World) (lane : BridgeLane) → Forgets plain world → next_mark_in board plain lane ≡ next_mark_in board world lane
next_forget board plain world lane forgets = ap (λ (s : LaneState). mark_of_first board lane s s.flight) (forgets lane) ∙ mark_forget board lane (world lane) (world lane).flight

module _ (board : Board) (tree : IsTree board) (distinct : DifferentNumbers board) (single : DelayedAreSingle board)
    (well : (q : OpId) (op : Op) → op_of board q ≡ Some op → is_well_formed_op op ≡ true) (apart : Apart board) where
  -- one more event
  module _ (h : List Event) (run : Run board h) (forgets : Forgets (world_by Untagged board h) (world_of board h)) where
    wants_same : (on : ℕ) (by : By) (o : OpId) → wants_by Untagged board h on by o ≡ wants board h on by o
    wants_same on by o = wants_forget board (world_by Untagged board h) (world_of board h) forgets h on by o (λ lane ends. none_same board tree distinct single well apart h run on o lane)

    answer_same : (on : ℕ) (by : By) (o : OpId) → wants board h on by o ≡ true → answer_by_rule Untagged board h on by o ≡ answer board h on by o
    answer_same on by o wanted = answer_forget board (world_by Untagged board h) (world_of board h) forgets h on by o (presented_alike board tree distinct single well apart h run on by o wanted)

    allowed : (e : Event) → UntaggedAllowed board h e → Allowed board h e
    allowed (Act on by o step place) both_hold =
        let wanted : wants board h on by o ≡ true = sym (wants_same on by o) ∙ both_hold.0 in
        (wanted, sym (answer_same on by o wanted) ∙ both_hold.1)
    allowed (Arrive lane mark) is = sym (next_forget board (world_by Untagged board h) (world_of board h) lane forgets) ∙ is

    untagged : (e : Event) → Allowed board h e → UntaggedAllowed board h e
    untagged (Act on by o step place) both_hold = (wants_same on by o ∙ both_hold.0, answer_same on by o both_hold.0 ∙ both_hold.1)
    untagged (Arrive lane mark) is = next_forget board (world_by Untagged board h) (world_of board h) lane forgets ∙ is

    taken_alike : (on : ℕ) (by : By) (o : OpId) (step : Step) (lane : BridgeLane) → wants board h on by o ≡ true → answer board h on by o ≡ Gives step (Lane lane)
        → (outcome : Outcome) → step ≡ Take outcome → Alike board on by o (world_of board h lane).held
    taken_alike on by o step lane wanted gives outcome is_take =
        let at = answered_at board h on by o (Take outcome) lane (subst (λ s. answer board h on by o ≡ Gives s (Lane lane)) is_take gives) in
        presented_alike board tree distinct single well apart h run on by o wanted at.request at.is_request at.gives.0 lane at.claims

    place_forget : (on : ℕ) (by : By) (o : OpId) (step : Step) (place : Place) → wants board h on by o ≡ true → answer board h on by o ≡ Gives step place
        → Forgets (at_place board on anyone o step place (world_by Untagged board h)) (at_place board on by o step place (world_of board h))
    place_forget on by o step (Target target) wanted gives = forgets
    place_forget on by o step (Header bus) wanted gives = forgets
    place_forget on by o step (Lane lane) wanted gives =
        moved_forget (enters board on anyone o step) (enters board on by o step) lane (world_by Untagged board h) (world_of board h) forgets
        (enters_forget board on by o step (both (world_of board h) lane) (taken_alike on by o step lane wanted gives))
    place_forget on by o step Nobody wanted gives = forgets

    initiator_forget : (by : By) (o : OpId) (step : Step) (plain world : World) → Forgets plain world → Forgets (at_initiator board by o step plain) (at_initiator board by o step world)
    initiator_forget Master o step plain world there = there
    initiator_forget (ByLane lane) o step plain world there = leaves_forget lane o (lane_outcome board lane o step) plain world there

    after_forget : (e : Event) → Allowed board h e → Forgets (world_by Untagged board (e ∷ h)) (world_of board (e ∷ h))
    after_forget (Act on by o step place) both_hold =
        initiator_forget by o step (at_place board on anyone o step place (world_by Untagged board h)) (at_place board on by o step place (world_of board h))
        (place_forget on by o step place both_hold.0 both_hold.1)
    after_forget (Arrive lane mark) is = arrival_forget mark lane (world_by Untagged board h) (world_of board h) forgets

  pub record AlikeRuns (h : List Event) : Type 0 where
    pub run : UntaggedRun board h → Run board h
    pub untagged : Run board h → UntaggedRun board h
    pub world : Run board h → Forgets (world_by Untagged board h) (world_of board h)

  pub runs_alike : (h : List Event) → AlikeRuns h
  runs_alike [] = record { run = λ run. tt; untagged = λ run. tt; world = λ run lane. refl }
  runs_alike (e ∷ h) =
      let old = runs_alike h in
      record {
        run = λ run. (let before = old.run run.1 in (allowed h before (old.world before) e run.0, before));
        untagged = λ run. (untagged h run.1 (old.world run.1) e run.0, old.untagged run.1);
        world = λ run. after_forget h run.1 (old.world run.1) e run.0;
      }
