-- What an event does to the lanes is seen on its own bus alone: of a lane that ends on another bus the same stands, and
-- of one that begins there the same is held and owed.
use Rattle.std.proofs.Common.{◌≡◌, ◌≢◌, ℕ, true, List, [], ◌∷◌, Option, Some, None, refl, sym, subst, ◌∙◌}
use Rattle.std.specs.List.{find}
use Rattle.pci_command.specs.declared.op_id.OpId.{OpId}
use Rattle.pci_command.specs.declared.op_id.Outcome.{Outcome}
use Rattle.board_model.specs.declared.bridge.Lane.{Lane as BridgeLane}
use Rattle.board_model.specs.declared.bridge.Place.{Place}
use Rattle.board_model.specs.declared.bridge.Place.TheVariants.{Target, Header, Lane, Nobody}
use Rattle.board_model.specs.declared.board.Board.{Board}
use Rattle.board_model.specs.Ways.{start_of, end_of, lane_back}
use Rattle.history_model.specs.declared.event.By.{By}
use Rattle.history_model.specs.declared.event.By.TheVariants.{Master, Lane as ByLane}
use Rattle.history_model.specs.declared.event.Mark.{Mark}
use Rattle.history_model.specs.declared.event.Step.{Step}
use Rattle.history_model.specs.declared.event.Step.TheVariants.{Land, Part, Read, Accept, Latch, Take, Stall, MasterAbort, TargetAbort}
use Rattle.history_model.specs.declared.event.Event.{Event}
use Rattle.history_model.specs.declared.event.Event.TheVariants.{Act, Arrive}
use Rattle.history_model.specs.declared.item.Carried.{Carried}
use Rattle.history_model.specs.declared.item.Slot.{Slot}
use Rattle.history_model.specs.Lanes.{LaneState, Both, item_ends, Effect, Stands, Credits, Frees, Drops, effect_of, takes_effect, came_off, arrives_first, arrives}
use Rattle.history_model.specs.World.{World, both, moved, is_own, slot_found, enters, at_place, leaves, lane_outcome, at_initiator, world_of}
use Rattle.history_model.specs.Answers.{wants}
use Rattle.history_model.specs.Runs.{Allowed}
use Rattle.history_model.specs.Local.{bus_of}
use Rattle.law_lanes.proofs.Laws.{wants-at}
use Rattle.law_local.proofs.JointLemmas.{end_back, start_back, moved_here, moved_back, moved_other, by_lanes}
use Rattle.law_local.proofs.ApartLemmas.{IsFit, place_apart}

-- of one lane, what a bus sees of it stays
pub record Frame (board : Board) (bus : ℕ) (lane : BridgeLane) (before later : LaneState) : Type 0 where
  pub standing : end_of board lane ≡ bus → later.standing ≡ before.standing
  pub held : start_of board lane ≡ bus → later.held ≡ before.held
  pub owed : start_of board lane ≡ bus → later.owed ≡ before.owed

-- of all lanes
abbrev pub Frames : Board → ℕ → World → World → Type 0
Frames board bus before later = (lane : BridgeLane) → Frame board bus lane (before lane) (later lane)

same_frame : (board : Board) (bus : ℕ) (lane : BridgeLane) (s : LaneState) → Frame board bus lane s s
same_frame board bus lane s = record { standing = λ _. refl; held = λ _. refl; owed = λ _. refl }

then_frame : (board : Board) (bus : ℕ) (lane : BridgeLane) (a b c : LaneState) → Frame board bus lane a b → Frame board bus lane b c → Frame board bus lane a c
then_frame board bus lane a b c first second =
    record {
      standing = λ ends. second.standing ends ∙ first.standing ends;
      held = λ starts. second.held starts ∙ first.held starts;
      owed = λ starts. second.owed starts ∙ first.owed starts;
    }

-- a move of the two lanes of a bridge
moved_frame : (board : Board) (bus : ℕ) (world : World) (lane : BridgeLane) (move : Both → Both)
    → Frame board bus lane (world lane) (move (both world lane)).here
    → Frame board bus (lane_back lane) (world (lane_back lane)) (move (both world lane)).back
    → Frames board bus world (moved move lane world)
moved_frame board bus world lane move here back =
    let Goal : BridgeLane → Type 0 = λ l. Frame board bus l (world l) (moved move lane world l) in
    by_lanes Goal lane
    (subst (Frame board bus lane (world lane)) (sym (moved_here move lane world)) here)
    (subst (Frame board bus (lane_back lane) (world (lane_back lane))) (sym (moved_back move lane world)) back)
    (λ l apart apart_back. subst (Frame board bus l (world l)) (sym (moved_other move lane world l apart apart_back)) (same_frame board bus l (world l)))

-- what a bus puts on a lane that begins there, and takes off the lane back, is nothing to the far side of the bridge
pub record Near (x z : Both) : Type 0 where
  pub standing : z.here.standing ≡ x.here.standing
  pub held : z.back.held ≡ x.back.held
  pub owed : z.back.owed ≡ x.back.owed

found_near : (found : Option Slot) (x : Both) → Near x (slot_found found x)
found_near None x = record { standing = refl; held = refl; owed = refl }
found_near (Some slot) x = record { standing = refl; held = refl; owed = refl }

enters_near : (board : Board) (on : ℕ) (by : By) (o : OpId) (step : Step) (x : Both) → Near x (enters board on by o step x)
enters_near board on by o Land x = record { standing = refl; held = refl; owed = refl }
enters_near board on by o (Part phases) x = record { standing = refl; held = refl; owed = refl }
enters_near board on by o (Read value) x = record { standing = refl; held = refl; owed = refl }
enters_near board on by o Accept x = record { standing = refl; held = refl; owed = refl }
enters_near board on by o Latch x = record { standing = refl; held = refl; owed = refl }
enters_near board on by o (Take outcome) x = found_near (find (is_own board on by o) x.here.held) x
enters_near board on by o Stall x = record { standing = refl; held = refl; owed = refl }
enters_near board on by o MasterAbort x = record { standing = refl; held = refl; owed = refl }
enters_near board on by o TargetAbort x = record { standing = refl; held = refl; owed = refl }

-- what a bus takes off a lane that ends there, and puts on the lane back
pub record Far (x z : Both) : Type 0 where
  pub held : z.here.held ≡ x.here.held
  pub owed : z.here.owed ≡ x.here.owed
  pub standing : z.back.standing ≡ x.back.standing

effect_far : (effect : Effect) (item : Carried) (rest : List Carried) (x : Both) → Far x (takes_effect effect item (record x { here = came_off item rest x.here }))
effect_far Stands item rest x = record { held = refl; owed = refl; standing = refl }
effect_far Credits item rest x = record { held = refl; owed = refl; standing = refl }
effect_far (Frees slot) item rest x = record { held = refl; owed = refl; standing = refl }
effect_far (Drops slot) item rest x = record { held = refl; owed = refl; standing = refl }

arrives_far : (mark : Mark) (flight : List Carried) (x : Both) → Far x (arrives_first mark flight x)
arrives_far mark [] x = record { held = refl; owed = refl; standing = refl }
arrives_far mark (item ∷ rest) x = effect_far (effect_of mark item) item rest x

module _ (board : Board) (bus on : ℕ) (apart : on ≢ bus) where
  -- a move by the bus where the lane begins
  near_frame : (world : World) (lane : BridgeLane) (move : Both → Both) → start_of board lane ≡ on → Near (both world lane) (move (both world lane)) → Frames board bus world (moved move lane world)
  near_frame world lane move starts near =
      moved_frame board bus world lane move
      (record { standing = λ _. near.standing; held = λ here. absurd (apart (sym starts ∙ here)); owed = λ here. absurd (apart (sym starts ∙ here)) })
      (record { standing = λ here. absurd (apart (sym starts ∙ (sym (end_back board lane) ∙ here))); held = λ _. near.held; owed = λ _. near.owed })

  -- a move by the bus where it ends
  far_frame : (world : World) (lane : BridgeLane) (move : Both → Both) → end_of board lane ≡ on → Far (both world lane) (move (both world lane)) → Frames board bus world (moved move lane world)
  far_frame world lane move ends far =
      moved_frame board bus world lane move
      (record { standing = λ here. absurd (apart (sym ends ∙ here)); held = λ _. far.held; owed = λ _. far.owed })
      (record {
        standing = λ _. far.standing;
        held = λ here. absurd (apart (sym ends ∙ (sym (start_back board lane) ∙ here)));
        owed = λ here. absurd (apart (sym ends ∙ (sym (start_back board lane) ∙ here)));
      })

  place_frame : (world : World) (by : By) (o : OpId) (step : Step) (place : Place) → ((lane : BridgeLane) → place ≡ Lane lane → start_of board lane ≡ on) → Frames board bus world (at_place board on by o step place world)
  place_frame world by o step (Target target) begins = λ l. same_frame board bus l (world l)
  place_frame world by o step (Header header) begins = λ l. same_frame board bus l (world l)
  place_frame world by o step (Lane lane) begins = near_frame world lane (enters board on by o step) (begins lane refl) (enters_near board on by o step (both world lane))
  place_frame world by o step Nobody begins = λ l. same_frame board bus l (world l)

  leaves_frame : (world : World) (lane : BridgeLane) (o : OpId) (outcome : Option Outcome) → end_of board lane ≡ on → Frames board bus world (leaves lane o outcome world)
  leaves_frame world lane o None ends = λ l. same_frame board bus l (world l)
  leaves_frame world lane o (Some outcome) ends = far_frame world lane (item_ends o outcome) ends (record { held = refl; owed = refl; standing = refl })

  initiator_frame : (world : World) (by : By) (o : OpId) (step : Step) → ((lane : BridgeLane) → by ≡ ByLane lane → end_of board lane ≡ on) → Frames board bus world (at_initiator board by o step world)
  initiator_frame world Master o step ends = λ l. same_frame board bus l (world l)
  initiator_frame world (ByLane lane) o step ends = leaves_frame world lane o (lane_outcome board lane o step) (ends lane refl)

-- an event that is allowed
pub event_frame : (board : Board) (fit : IsFit board) (bus : ℕ) (h : List Event) (e : Event) → Allowed board h e → bus_of board e ≢ bus → Frames board bus (world_of board h) (world_of board (e ∷ h))
event_frame board fit bus h (Act on by o step place) allowed apart =
    let world : World = world_of board h in
    let mid : World = at_place board on by o step place world in
    let begins : (lane : BridgeLane) → place ≡ Lane lane → start_of board lane ≡ on =
    λ lane is. (place_apart board fit world h on by o step place allowed.1 lane is).0 in
    let ends : (lane : BridgeLane) → by ≡ ByLane lane → end_of board lane ≡ on =
    λ lane is. wants-at board h on (ByLane lane) o (subst (λ b. wants board h on b o ≡ true) is allowed.0) in
    λ l. then_frame board bus l (world l) (mid l) (at_initiator board by o step mid l)
    (place_frame board bus on apart world by o step place begins l)
    (initiator_frame board bus on apart mid by o step ends l)
event_frame board fit bus h (Arrive lane mark) allowed apart =
    let world : World = world_of board h in
    far_frame board bus (end_of board lane) apart world lane (arrives mark) refl (arrives_far mark (world lane).flight (both world lane))
