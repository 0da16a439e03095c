-- Every run is matched, by the test that computes it.
use Rattle.std.proofs.Common.{◌≡◌, true, ◌&&◌, List, [], ◌∷◌, ℕ, refl, sym, subst}
use Rattle.pci_command.specs.declared.op_id.OpId.{OpId}
use Rattle.pci_command.specs.declared.op_id.Outcome.{Outcome}
use Rattle.pci_command.specs.Same.{same_op}
use Rattle.board_model.specs.declared.board.Board.{Board}
use Rattle.board_model.specs.declared.bridge.Lane.{Lane as BridgeLane}
use Rattle.board_model.specs.declared.bridge.Place.{Place}
use Rattle.board_model.specs.declared.bridge.Place.TheVariants.{Target, Header, Lane, Nobody}
use Rattle.history_model.specs.declared.event.By.{By}
use Rattle.history_model.specs.declared.event.Step.{Step}
use Rattle.history_model.specs.declared.event.Step.TheVariants.{Land, Part, Read, Accept, Latch, Take, Stall, MasterAbort, TargetAbort}
use Rattle.history_model.specs.declared.event.Event.{Event}
use Rattle.history_model.specs.declared.event.Event.TheVariants.{Act, Arrive}
use Rattle.history_model.specs.World.{world_of}
use Rattle.history_model.specs.Runs.{Run}
use Rattle.history_model.specs.Local.{Matched, is_matched, is_matched_step, takes_its_own}
use Rattle.law_lanes.specs.Depths.{DifferentNumbers}
use Rattle.law_lanes.specs.Phases.{DelayedAreSingle}
use Rattle.law_lanes.specs.Owners.{TakesItsOwn}
use Rattle.history_model.proofs.facts.RequestLemmas.{same_op_self}
use Rattle.law_lanes.proofs.MatchedLemmas.{TakesItsOwn-run}

takes_own : (board : Board) (h : List Event) (on : ℕ) (by : By) (o : OpId) (outcome : Outcome) (lane : BridgeLane) →
    TakesItsOwn board h on by o outcome lane → takes_its_own board (world_of board h) on by o lane ≡ true
takes_own board h on by o outcome lane takes =
    let P : OpId → Type 0 = λ p. (same_op p o && same_op o o) ≡ true in
    let itself : (same_op o o && same_op o o) ≡ true = rw (same_op_self o) refl in
    rw (takes.is_own_slot, takes.stands) (subst P (sym takes.is_for) itself)

step_matched : (board : Board) (h : List Event) (on : ℕ) (by : By) (o : OpId) (step : Step) (place : Place) → DifferentNumbers board → DelayedAreSingle board →
    Run board (Act on by o step place ∷ h) → is_matched_step board (world_of board h) on by o step place ≡ true
step_matched board h on by o Land place distinct single run = refl
step_matched board h on by o (Part phases) place distinct single run = refl
step_matched board h on by o (Read value) place distinct single run = refl
step_matched board h on by o Accept place distinct single run = refl
step_matched board h on by o Latch place distinct single run = refl
step_matched board h on by o (Take outcome) (Target target) distinct single run = refl
step_matched board h on by o (Take outcome) (Header bus) distinct single run = refl
step_matched board h on by o (Take outcome) (Lane lane) distinct single run =
    takes_own board h on by o outcome lane (TakesItsOwn-run board h on by o outcome lane distinct single run)
step_matched board h on by o (Take outcome) Nobody distinct single run = refl
step_matched board h on by o Stall place distinct single run = refl
step_matched board h on by o MasterAbort place distinct single run = refl
step_matched board h on by o TargetAbort place distinct single run = refl

event_matched : (board : Board) (h : List Event) (e : Event) → DifferentNumbers board → DelayedAreSingle board → Run board (e ∷ h) → is_matched board h e ≡ true
event_matched board h (Act on by o step place) distinct single run = step_matched board h on by o step place distinct single run
event_matched board h (Arrive lane mark) distinct single run = refl

pub Matched-run : (board : Board) (h : List Event) → DifferentNumbers board → DelayedAreSingle board → Run board h → Matched board h
Matched-run board [] distinct single run = tt
Matched-run board (e ∷ h) distinct single run = (event_matched board h e distinct single run, Matched-run board h distinct single run.1)
