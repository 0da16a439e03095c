-- A fact of the pairs of lanes that each move keeps holds in every run.
use Rattle.std.proofs.Common.{◌≡◌, ℕ, true, List, [], ◌∷◌, Option, Some, None, sym, subst}
use Rattle.std.specs.List.{find}
use Rattle.pci_command.specs.declared.op_id.OpId.{OpId}
use Rattle.pci_command.specs.declared.op_id.Outcome.{Outcome}
use Rattle.board_model.specs.declared.bridge.Lane.{Lane as BridgeLane}
use Rattle.board_model.specs.declared.bridge.Place.{Place}
use Rattle.board_model.specs.declared.bridge.Place.TheVariants.{Target, Header, Lane, Nobody}
use Rattle.board_model.specs.declared.board.Board.{Board}
use Rattle.history_model.specs.declared.event.By.{By}
use Rattle.history_model.specs.declared.event.By.TheVariants.{Master, Lane as ByLane}
use Rattle.history_model.specs.declared.event.Mark.{Mark}
use Rattle.history_model.specs.declared.event.Step.{Step}
use Rattle.history_model.specs.declared.event.Step.TheVariants.{Land, Part, Read, Accept, Latch, Take, Stall, MasterAbort, TargetAbort}
use Rattle.history_model.specs.declared.event.Event.{Event}
use Rattle.history_model.specs.declared.event.Event.TheVariants.{Act, Arrive}
use Rattle.history_model.specs.declared.item.Carried.TheVariants.{Done}
use Rattle.history_model.specs.declared.item.Slot.{Slot}
use Rattle.history_model.specs.declared.item.Answer.TheVariants.{Gives}
use Rattle.history_model.specs.Lanes.{Both, empty_lane, is_done_for, post_enters, ask_enters, item_ends, slot_taken, arrives}
use Rattle.history_model.specs.declared.rule.Rule.{Rule}
use Rattle.history_model.specs.declared.rule.Rule.TheVariants.{Tagged}
use Rattle.history_model.specs.World.{World, noted, world_by, both, slot_found, enters, at_place, lane_outcome, leaves, at_initiator, world_of}
use Rattle.board_model.specs.Ways.{lane_back}
use Rattle.history_model.specs.Answers.{wants_by, answer_by_rule}
use Rattle.history_model.specs.Runs.{AllowedBy, RunBy, Run}
use Rattle.history_model.proofs.facts.BridgeLemmas.{flip, both_back, moved_keeps}
use Rattle.history_model.proofs.facts.AnswerLemmas.{AtLaneIn, answered_in}

-- a fact at a lane and, the other way round, at the lane back
abbrev pub Pair : (BridgeLane → Both → Type 0) → BridgeLane → Both → Type 0
Pair P lane x = P lane x × P (lane_back lane) (flip x)

-- each of the five moves of a run keeps the fact
pub record KeptBy (rule : Rule) (board : Board) (P : BridgeLane → Both → Type 0) : Type 0 where
  pub empty : (lane : BridgeLane) → P lane (record { here = empty_lane; back = empty_lane })
  pub accepts : (h : List Event) (on : ℕ) (by : By) (o : OpId) (lane : BridgeLane)
      → RunBy rule board h → wants_by rule board h on by o ≡ true → AtLaneIn board (world_by rule board h) h on (noted rule by) o Accept lane
      → Pair P lane (both (world_by rule board h) lane) → Pair P lane (post_enters o (both (world_by rule board h) lane))
  pub latches : (h : List Event) (on : ℕ) (by : By) (o : OpId) (lane : BridgeLane)
      → RunBy rule board h → wants_by rule board h on by o ≡ true → AtLaneIn board (world_by rule board h) h on (noted rule by) o Latch lane
      → Pair P lane (both (world_by rule board h) lane) → Pair P lane (ask_enters (noted rule by) o (both (world_by rule board h) lane))
  pub takes : (lane : BridgeLane) (number : ℕ) (op : OpId) (slot : ℕ) (outcome : Outcome) (x : Both)
      → find (is_done_for number) x.back.standing ≡ Some (Done op slot outcome) → Pair P lane x → Pair P lane (slot_taken number x)
  pub ends : (lane : BridgeLane) (o : OpId) (outcome : Outcome) (x : Both) → Pair P lane x → Pair P lane (item_ends o outcome x)
  pub comes : (lane : BridgeLane) (mark : Mark) (x : Both) → Pair P lane x → Pair P lane (arrives mark x)

-- a fact at each lane, at a lane both ways
pair_at : (P : BridgeLane → Both → Type 0) (world : World) (lane : BridgeLane) → ((l : BridgeLane) → P l (both world l)) → Pair P lane (both world lane)
pair_at P world lane each = (each lane, subst (P (lane_back lane)) (both_back world lane) (each (lane_back lane)))

module _ (rule : Rule) (board : Board) (P : BridgeLane → Both → Type 0) (kept : KeptBy rule board P) where
  enters_keeps : (h : List Event) (on : ℕ) (by : By) (o : OpId) (step : Step) (lane : BridgeLane)
      → RunBy rule board h → wants_by rule board h on by o ≡ true → AtLaneIn board (world_by rule board h) h on (noted rule by) o step lane
      → Pair P lane (both (world_by rule board h) lane) → Pair P lane (enters board on (noted rule by) o step (both (world_by rule board h) lane))
  enters_keeps h on by o Land lane run wanted at old = absurd at.gives
  enters_keeps h on by o (Part phases) lane run wanted at old = absurd at.gives
  enters_keeps h on by o (Read value) lane run wanted at old = absurd at.gives
  enters_keeps h on by o Accept lane run wanted at old = kept.accepts h on by o lane run wanted at old
  enters_keeps h on by o Latch lane run wanted at old = kept.latches h on by o lane run wanted at old
  enters_keeps h on by o (Take outcome) lane run wanted at old =
      let x : Both = both (world_by rule board h) lane in
      let taken = at.gives.1 in
      let Goal : Option Slot → Type 0 = λ own. Pair P lane (slot_found own x) in
      subst Goal (sym taken.is_own_slot) (kept.takes lane taken.slot.number taken.op taken.number outcome x taken.stands old)
  enters_keeps h on by o Stall lane run wanted at old = absurd at.gives
  enters_keeps h on by o MasterAbort lane run wanted at old = absurd at.gives
  enters_keeps h on by o TargetAbort lane run wanted at old = absurd at.gives

  pub place_keeps : (h : List Event) (on : ℕ) (by : By) (o : OpId) (step : Step) (place : Place)
      → RunBy rule board h → wants_by rule board h on by o ≡ true → answer_by_rule rule board h on by o ≡ Gives step place
      → ((l : BridgeLane) → P l (both (world_by rule board h) l)) → (l : BridgeLane) → P l (both (at_place board on (noted rule by) o step place (world_by rule board h)) l)
  place_keeps h on by o step (Target target) run wanted gives old = old
  place_keeps h on by o step (Header bus) run wanted gives old = old
  place_keeps h on by o step (Lane lane) run wanted gives old =
      let world : World = world_by rule board h in
      let new = enters_keeps h on by o step lane run wanted (answered_in board (world_by rule board h) h on (noted rule by) o step lane gives) (pair_at P world lane old) in
      moved_keeps P (enters board on (noted rule by) o step) lane world old new.0 new.1
  place_keeps h on by o step Nobody run wanted gives old = old

  leaves_keeps : (world : World) (lane : BridgeLane) (o : OpId) (outcome : Option Outcome)
      → ((l : BridgeLane) → P l (both world l)) → (l : BridgeLane) → P l (both (leaves lane o outcome world) l)
  leaves_keeps world lane o None old = old
  leaves_keeps world lane o (Some outcome) old =
      let new = kept.ends lane o outcome (both world lane) (pair_at P world lane old) in
      moved_keeps P (item_ends o outcome) lane world old new.0 new.1

  initiator_keeps : (world : World) (by : By) (o : OpId) (step : Step)
      → ((l : BridgeLane) → P l (both world l)) → (l : BridgeLane) → P l (both (at_initiator board by o step world) l)
  initiator_keeps world Master o step old = old
  initiator_keeps world (ByLane lane) o step old = leaves_keeps world lane o (lane_outcome board lane o step) old

  event_keeps : (h : List Event) (e : Event) → RunBy rule board h → AllowedBy rule board h e
      → ((l : BridgeLane) → P l (both (world_by rule board h) l)) → (l : BridgeLane) → P l (both (world_by rule board (e ∷ h)) l)
  event_keeps h (Act on by o step place) run allowed old =
      initiator_keeps (at_place board on (noted rule by) o step place (world_by rule board h)) by o step (place_keeps h on by o step place run allowed.0 allowed.1 old)
  event_keeps h (Arrive lane mark) run allowed old =
      let world : World = world_by rule board h in
      let new = kept.comes lane mark (both world lane) (pair_at P world lane old) in
      moved_keeps P (arrives mark) lane world old new.0 new.1

  pub runs_keep_by : (h : List Event) → RunBy rule board h → (l : BridgeLane) → P l (both (world_by rule board h) l)
  runs_keep_by [] run = kept.empty
  runs_keep_by (e ∷ h) run = event_keeps h e run.1 run.0 (runs_keep_by h run.1)

-- on bridges that keep the local master
abbrev pub Kept : Board → (BridgeLane → Both → Type 0) → Type 0
Kept board P = KeptBy Tagged board P

pub runs_keep : (board : Board) (P : BridgeLane → Both → Type 0) → Kept board P → (h : List Event) → Run board h → (l : BridgeLane) → P l (both (world_of board h) l)
runs_keep board P kept h run l = runs_keep_by Tagged board P kept h run l
