-- What follows for the whole board from what each bus knows.
use Rattle.std.proofs.Common.{◌≡◌, ℕ, true, List, [], ◌∷◌, ◌++◌, Option, Some, None, inl, inr, refl, sym, ap, subst, ◌∙◌}
use Rattle.board_model.specs.declared.bridge.Bridge.{Bridge}
use Rattle.board_model.specs.declared.bridge.Lane.{Lane as BridgeLane}
use Rattle.board_model.specs.declared.board.Board.{Board}
use Rattle.board_model.specs.Valid.{IsValid}
use Rattle.board_model.specs.Ways.{end_of, lane_back}
use Rattle.history_model.specs.declared.event.Mark.{Mark}
use Rattle.history_model.specs.declared.event.Event.{Event}
use Rattle.history_model.specs.declared.event.Event.TheVariants.{Act, Arrive}
use Rattle.history_model.specs.declared.item.Carried.{Carried}
use Rattle.history_model.specs.declared.item.Answer.TheVariants.{Gives}
use Rattle.history_model.specs.Lanes.{LaneState}
use Rattle.history_model.specs.World.{World, world_of}
use Rattle.history_model.specs.Answers.{wants_in, answer_in, bridge_to}
use Rattle.history_model.specs.Runs.{mark_of_first, Allowed, Run, Complete}
use Rattle.history_model.specs.Local.{is_lawful, is_lawful_at, is_lawful_on}
use Rattle.law_local.specs.Known.{events_on, known, AllJoint}
use Rattle.law_local.specs.Quiet.{IsRetry, AllQuiet}
use Rattle.law_local.proofs.JointLemmas.{start_back}
use Rattle.law_local.proofs.ApartLemmas.{IsFit}
use Rattle.law_local.proofs.AnswerLemmas.{answer_local}
use Rattle.law_local.proofs.TransferLemmas.{wants_local}
use Rattle.law_lanes.proofs.progress.Laws.{Sound-valid, goes_on}

-- what is the front of nothing is nothing
front_empty : (xs ys : List Carried) → xs ++ ys ≡ [] → xs ≡ []
front_empty [] ys is = refl
front_empty (x ∷ xs) ys is = cc

-- nothing arrives where nothing is in flight
some_marked : (board : Board) (lane : BridgeLane) (s : LaneState) (flight : List Carried) → flight ≡ [] → (mark : Mark) → mark_of_first board lane s flight ≡ Some mark → ⊥
some_marked board lane s [] none mark is = let wrong : None ≡ Some mark = is in cc
some_marked board lane s (item ∷ rest) none mark is = cc

-- the test reads no more
lawful_shape : (item : Carried) (found : Option Bridge) (w v x y : LaneState) → w.standing ≡ x.standing → v.held ≡ y.held → v.owed ≡ y.owed → is_lawful_at w v item found ≡ is_lawful_at x y item found
lawful_shape item None w v x y standing held owed = refl
lawful_shape item (Some bridge) w v x y standing held owed =
    ap (λ s. is_lawful bridge.posted bridge.delayed s v.held v.owed item) standing
    ∙ (ap (λ s. is_lawful bridge.posted bridge.delayed x.standing s v.owed item) held ∙ ap (λ n. is_lawful bridge.posted bridge.delayed x.standing y.held n item) owed)

module _ (board : Board) (fit : IsFit board) (sent : BridgeLane → List Carried) (h : List Event) (joint : AllJoint board sent h) (run : Run board h) where
  -- on a quiet board no event is allowed
  not_allowed : (e : Event) → AllQuiet board sent h → Allowed board h e → ⊥
  not_allowed (Act bus by o step place) quiet allowed =
      let own : World = known board sent bus h in
      let wanted : wants_in board own (events_on board bus h) bus by o ≡ true = sym (wants_local board sent h bus joint run by o) ∙ allowed.0 in
      let given : answer_in board own (events_on board bus h) bus by o ≡ Gives step place = sym (answer_local board fit sent h bus joint run by o allowed.0) ∙ allowed.1 in
      subst IsRetry given ((quiet bus).retried by o wanted)
  not_allowed (Arrive lane mark) quiet allowed =
      let j = joint lane in
      let far : (known board sent (end_of board lane) h lane).flight ≡ [] = (quiet (end_of board lane)).nothing_comes lane refl in
      let none : (world_of board h lane).flight ≡ [] = front_empty (world_of board h lane).flight j.later (j.flight ∙ far) in
      some_marked board lane (world_of board h lane) (world_of board h lane).flight none mark allowed

  -- where no bus has anything more to do, the run is complete
  pub quiet_complete : IsValid board → AllQuiet board sent h → Complete board h
  quiet_complete valid quiet =
      elim (goes_on board h run (Sound-valid board valid)) [
        | inl next ↦ absurd (not_allowed next.event quiet next.allowed)
        | inr complete ↦ complete
      ]

-- an item passes the test of what the bus knows where the lane ends exactly where it passes that of the world
pub lawful_known : (board : Board) (sent : BridgeLane → List Carried) (h : List Event) → AllJoint board sent h → (lane : BridgeLane) (item : Carried)
    → is_lawful_on board (world_of board h) lane item ≡ is_lawful_on board (known board sent (end_of board lane) h) lane item
lawful_known board sent h joint lane item =
    let bus : ℕ = end_of board lane in
    let own : World = known board sent bus h in
    let j = joint lane in
    let F : ℕ → Type 0 = λ n. ((world_of board h (lane_back lane)).held ≡ (known board sent n h (lane_back lane)).held) × ((world_of board h (lane_back lane)).owed ≡ (known board sent n h (lane_back lane)).owed) in
    let b = joint (lane_back lane) in
    let back = subst F (start_back board lane) (b.held, b.owed) in
    lawful_shape item (bridge_to board lane.bus) (world_of board h lane) (world_of board h (lane_back lane)) (own lane) (own (lane_back lane)) j.standing back.0 back.1
