-- The posted writes of a lane keep their order: what an event puts on a lane, what it takes off, and every run.
use Rattle.std.proofs.Common.{◌≡◌, ℕ, Bool, true, false, List, [], ◌∷◌, ◌++◌, Option, Some, refl, sym, ap, subst, ◌∙◌, append-nil}
use Rattle.std.specs.List.{AllByRecursion}
use Rattle.list_facts.proofs.EachLemmas.{Each-less}
use Rattle.pci_command.specs.declared.op_id.OpId.{OpId}
use Rattle.board_model.specs.declared.bridge.Lane.{Lane as BridgeLane}
use Rattle.board_model.specs.declared.bridge.Place.{Place}
use Rattle.board_model.specs.declared.bridge.Place.TheVariants.{Target, Header, Lane, Nobody}
use Rattle.board_model.specs.declared.board.Board.{Board}
use Rattle.history_model.specs.declared.event.By.{By}
use Rattle.history_model.specs.declared.event.Step.{Step}
use Rattle.history_model.specs.declared.event.Step.TheVariants.{Land, Part, Read, Accept, Latch, Take, Stall, MasterAbort, TargetAbort}
use Rattle.history_model.specs.declared.event.Event.{Event}
use Rattle.history_model.specs.declared.item.Carried.{Carried}
use Rattle.history_model.specs.declared.item.Carried.TheVariants.{Post, Ask}
use Rattle.history_model.specs.declared.item.Slot.{Slot}
use Rattle.history_model.specs.declared.item.Answer.TheVariants.{Gives}
use Rattle.history_model.specs.Lanes.{LaneState, Both, lowest_free, is_done_for}
use Rattle.history_model.specs.World.{World, same_lane, both, slot_found, enters, at_place, world_of}
use Rattle.board_model.specs.Ways.{lane_back}
use Rattle.history_model.specs.Answers.{answer}
use Rattle.history_model.specs.Runs.{Run}
use Rattle.law_lanes.specs.Kinds.{RightKind}
use Rattle.history_model.proofs.facts.BridgeLemmas.{same_lane_self, same_lane_back, same_lane_symm, moved_gives}
use Rattle.history_model.proofs.facts.AnswerLemmas.{AtLane, answered_at}
use Rattle.law_lanes.proofs.Laws.{RightKind-run}
use Rattle.law_lanes.specs.order.Order.{posts, is_posted_op, accepted_at, enters_by}
use Rattle.law_lanes.proofs.order.PostLemmas.{posts-append, posts-less_done, op_is_posted}

-- a lane after the claimant's part of an event: what entered is behind what was in flight, and the posted writes
-- that stand are as before; where the operation is a write in memory, all that stands is
pub record Placed (board : Board) (o : OpId) (new : List OpId) (old x : LaneState) : Type 0 where
  pub flies : posts x.flight ≡ posts old.flight ++ new
  pub stands : posts x.standing ≡ posts old.standing
  pub right : AllByRecursion (RightKind board) x.standing
  pub same : is_posted_op board o ≡ true → x.standing ≡ old.standing

unchanged : (board : Board) (o : OpId) (s : LaneState) → AllByRecursion (RightKind board) s.standing → Placed board o [] s s
unchanged board o s right = record { flies = sym (append-nil (posts s.flight)); stands = refl; right = right; same = λ _. refl }

-- no lane is its lane back
pub back_apart : (lane : BridgeLane) → same_lane lane (lane_back lane) ≡ false
back_apart lane = same_lane_symm lane (lane_back lane) ∙ same_lane_back lane

-- where nothing is accepted at the lane, nothing enters it
enters_none : (l : BridgeLane) (o : OpId) (step : Step) (place : Place) → accepted_at l o place ≡ [] → enters_by l o step place ≡ []
enters_none l o Land place none = refl
enters_none l o (Part phases) place none = refl
enters_none l o (Read value) place none = refl
enters_none l o Accept place none = none
enters_none l o Latch place none = refl
enters_none l o (Take outcome) place none = refl
enters_none l o Stall place none = refl
enters_none l o MasterAbort place none = refl
enters_none l o TargetAbort place none = refl

accepts_apart : (at l : BridgeLane) (o : OpId) → same_lane at l ≡ false → accepted_at l o (Lane at) ≡ []
accepts_apart at l o apart = rw apart refl

module _ (board : Board) (h : List Event) (run : Run board h) where
  stands_right : (l : BridgeLane) → AllByRecursion (RightKind board) (world_of board h l).standing
  stands_right l = (RightKind-run board h l run).1

  -- at the lane that claims, and at its lane back
  enters_places : (on : ℕ) (by : By) (o : OpId) (step : Step) (lane : BridgeLane) → AtLane board h on by o step lane
      → Placed board o (enters_by lane o step (Lane lane)) (world_of board h lane) (enters board on by o step (both (world_of board h) lane)).here
      × Placed board o [] (world_of board h (lane_back lane)) (enters board on by o step (both (world_of board h) lane)).back
  enters_places on by o Land lane at = absurd at.gives
  enters_places on by o (Part phases) lane at = absurd at.gives
  enters_places on by o (Read value) lane at = absurd at.gives
  enters_places on by o Accept lane at =
      let s : LaneState = world_of board h lane in
      let new : enters_by lane o Accept (Lane lane) ≡ o ∷ [] = let self = same_lane_self lane in rw self refl in (
        record {
          flies = posts-append s.flight (Post o ∷ []) ∙ ap (λ n. posts s.flight ++ n) (sym new);
          stands = refl;
          right = stands_right lane;
          same = λ _. refl;
        },
        unchanged board o (world_of board h (lane_back lane)) (stands_right (lane_back lane)),
      )
  enters_places on by o Latch lane at =
      let s : LaneState = world_of board h lane in (
        record {
          flies = posts-append s.flight (Ask o (lowest_free s.held) ∷ []);
          stands = refl;
          right = stands_right lane;
          same = λ _. refl;
        },
        unchanged board o (world_of board h (lane_back lane)) (stands_right (lane_back lane)),
      )
  enters_places on by o (Take outcome) lane at =
      let x : Both = both (world_of board h) lane in
      let taken = at.gives.1 in
      let test : Carried → Bool = is_done_for taken.slot.number in
      let Goal : Option Slot → Type 0 = λ own. Placed board o [] x.here (slot_found own x).here × Placed board o [] x.back (slot_found own x).back in
      let there : Goal (Some taken.slot) = (
        record { flies = sym (append-nil (posts x.here.flight)); stands = refl; right = stands_right lane; same = λ _. refl },
        record {
          flies = sym (append-nil (posts x.back.flight));
          stands = posts-less_done taken.slot.number x.back.standing;
          right = Each-less (RightKind board) test x.back.standing (stands_right (lane_back lane));
          same = λ posted.
              let other : is_posted_op board o ≡ false = op_is_posted board on o at.request false at.is_request at.gives.0 in
              let impossible : true ≡ false = sym posted ∙ other in
              cc;
        },
      ) in
      subst Goal (sym taken.is_own_slot) there
  enters_places on by o Stall lane at = absurd at.gives
  enters_places on by o MasterAbort lane at = absurd at.gives
  enters_places on by o TargetAbort lane at = absurd at.gives

  still : (on : ℕ) (by : By) (o : OpId) (step : Step) (place : Place) (l : BridgeLane) → accepted_at l o place ≡ []
      → Placed board o (enters_by l o step place) (world_of board h l) (world_of board h l)
  still on by o step place l none =
      subst (λ n. Placed board o n (world_of board h l) (world_of board h l)) (sym (enters_none l o step place none)) (unchanged board o (world_of board h l) (stands_right l))

  -- at every lane
  pub place_places : (on : ℕ) (by : By) (o : OpId) (step : Step) (place : Place) → answer board h on by o ≡ Gives step place
      → (l : BridgeLane) → Placed board o (enters_by l o step place) (world_of board h l) (at_place board on by o step place (world_of board h) l)
  place_places on by o step (Target target) gives l = still on by o step (Target target) l refl
  place_places on by o step (Header bus) gives l = still on by o step (Header bus) l refl
  place_places on by o step (Lane lane) gives l =
      let world : World = world_of board h in
      let P : BridgeLane → Both → Type 0 = λ l x. Placed board o (enters_by l o step (Lane lane)) (world l) x.here in
      let new = enters_places on by o step lane (answered_at board h on by o step lane gives) in
      let apart : (l : BridgeLane) → same_lane lane l ≡ false → enters_by l o step (Lane lane) ≡ [] = λ l far. enters_none l o step (Lane lane) (accepts_apart lane l o far) in
      moved_gives P (enters board on by o step) lane world
      (λ l far. subst (λ n. Placed board o n (world l) (world l)) (sym (apart l (same_lane_symm lane l ∙ far))) (unchanged board o (world l) (stands_right l)))
      new.0
      (subst (λ n. Placed board o n (world (lane_back lane)) (enters board on by o step (both world lane)).back) (sym (apart (lane_back lane) (back_apart lane))) new.1)
      l
  place_places on by o step Nobody gives l = still on by o step Nobody l refl
