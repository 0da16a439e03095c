-- A fact of each item on the lanes, after an event that brings only items of which it holds.
use Rattle.std.proofs.Common.{◌≡◌, ℕ, true, List, [], ◌∷◌, Option, Some, None, refl, subst}
use Rattle.std.specs.List.{find, AllByRecursion}
use Rattle.list_facts.proofs.EachLemmas.{Each-push, Each-append, Each-less}
use Rattle.list_facts.proofs.FindLemmas.{find_passes}
use Rattle.pci_command.specs.declared.op_id.OpId.{OpId}
use Rattle.pci_command.specs.declared.op_id.Outcome.{Outcome}
use Rattle.board_model.specs.declared.bridge.Lane.{Lane as BridgeLane}
use Rattle.board_model.specs.declared.bridge.Place.{Place}
use Rattle.board_model.specs.declared.bridge.Place.TheVariants.{Target, Header, Lane, Nobody}
use Rattle.board_model.specs.declared.board.Board.{Board}
use Rattle.history_model.specs.declared.event.By.{By}
use Rattle.history_model.specs.declared.event.By.TheVariants.{Master, Lane as ByLane}
use Rattle.history_model.specs.declared.event.Mark.{Mark}
use Rattle.history_model.specs.declared.event.Step.{Step}
use Rattle.history_model.specs.declared.event.Step.TheVariants.{Land, Part, Read, Accept, Latch, Take, Stall, MasterAbort, TargetAbort}
use Rattle.history_model.specs.declared.event.Event.TheVariants.{Act, Arrive}
use Rattle.history_model.specs.declared.item.Carried.{Carried}
use Rattle.history_model.specs.declared.item.Carried.TheVariants.{Post, Ask, Done, Room, Gone}
use Rattle.history_model.specs.declared.item.Slot.{Slot}
use Rattle.history_model.specs.declared.rule.Rule.{Rule}
use Rattle.history_model.specs.Lanes.{LaneState, Both, lowest_free, is_of, is_done_for, reply_to, item_ends, Effect, Stands, Credits, Frees, Drops, effect_of, takes_effect, came_off, arrives_first, arrives}
use Rattle.history_model.specs.World.{World, both, moved, is_own, slot_found, enters, at_place, lane_outcome, leaves, at_initiator, noted, after_by}
use Rattle.board_model.specs.Ways.{lane_back}
use Rattle.history_model.proofs.facts.BridgeLemmas.{moved_keeps}
use Rattle.history_model.proofs.facts.RequestLemmas.{same_op_true}

module _ (P : Carried → Type 0) where
  abbrev pub LaneHas : LaneState → Type 0
  LaneHas state = AllByRecursion P state.flight × AllByRecursion P state.standing

  abbrev pub WorldHas : World → Type 0
  WorldHas world = (lane : BridgeLane) → LaneHas (world lane)

  -- of what enters a lane
  abbrev pub Enters : OpId → Step → Type 0
  Enters o Land = Unit {0}
  Enters o (Part phases) = Unit {0}
  Enters o (Read value) = Unit {0}
  Enters o Accept = P (Post o)
  Enters o Latch = (slot : ℕ) → P (Ask o slot)
  Enters o (Take outcome) = Unit {0}
  Enters o Stall = Unit {0}
  Enters o MasterAbort = Unit {0}
  Enters o TargetAbort = Unit {0}

  -- of what goes back
  abbrev pub Replies : OpId → Option Outcome → Type 0
  Replies o None = Unit {0}
  Replies o (Some outcome) = (slot : ℕ) → P (Done o slot outcome)

  abbrev pub RepliesBy : Board → OpId → Step → By → Type 0
  RepliesBy board o step Master = Unit {0}
  RepliesBy board o step (ByLane lane) = Replies o (lane_outcome board lane o step)

  module _ (room : P Room) (gone : (slot : ℕ) → P (Gone slot)) where
    abbrev BothHave : Both → Type 0
    BothHave x = LaneHas x.here × LaneHas x.back

    moved_has : (move : Both → Both) (lane : BridgeLane) (world : World) → (BothHave (both world lane) → BothHave (move (both world lane))) → WorldHas world → WorldHas (moved move lane world)
    moved_has move lane world keeps old =
        let Q : BridgeLane → Both → Type 0 = λ lane x. LaneHas x.here in
        let new : BothHave (move (both world lane)) = keeps (old lane, old (lane_back lane)) in
        moved_keeps Q move lane world old new.0 new.1

    slot_has : (own : Option Slot) (x : Both) → BothHave x → BothHave (slot_found own x)
    slot_has None x old = old
    slot_has (Some slot) x old = (old.0, (old.1.0, Each-less P (is_done_for slot.number) x.back.standing old.1.1))

    enters_has : (board : Board) (on : ℕ) (by : By) (o : OpId) (step : Step) (x : Both) → Enters o step → BothHave x → BothHave (enters board on by o step x)
    enters_has board on by o Land x new old = old
    enters_has board on by o (Part phases) x new old = old
    enters_has board on by o (Read value) x new old = old
    enters_has board on by o Accept x new old = ((Each-push P x.here.flight (Post o) old.0.0 new, old.0.1), old.1)
    enters_has board on by o Latch x new old = ((Each-push P x.here.flight (Ask o (lowest_free x.here.held)) old.0.0 (new (lowest_free x.here.held)), old.0.1), old.1)
    enters_has board on by o (Take outcome) x new old = slot_has (find (is_own board on by o) x.here.held) x old
    enters_has board on by o Stall x new old = old
    enters_has board on by o MasterAbort x new old = old
    enters_has board on by o TargetAbort x new old = old

    place_has : (board : Board) (on : ℕ) (by : By) (o : OpId) (step : Step) (place : Place) (world : World) → Enters o step → WorldHas world → WorldHas (at_place board on by o step place world)
    place_has board on by o step (Target target) world new old = old
    place_has board on by o step (Header bus) world new old = old
    place_has board on by o step (Lane lane) world new old = moved_has (enters board on by o step) lane world (enters_has board on by o step (both world lane) new) old
    place_has board on by o step Nobody world new old = old

    reply_has : (o : OpId) (outcome : Outcome) (item : Option Carried) → Replies o (Some outcome) → ((found : Carried) → item ≡ Some found → is_of o found ≡ true) → AllByRecursion P (reply_to outcome item)
    reply_has o outcome None new passes = tt
    reply_has o outcome (Some (Post q)) new passes = (room, tt)
    reply_has o outcome (Some (Ask q slot)) new passes =
        let same : o ≡ q = same_op_true o q (passes (Ask q slot) refl) in
        (subst (λ p. P (Done p slot outcome)) same (new slot), tt)
    reply_has o outcome (Some (Done q slot given)) new passes = tt
    reply_has o outcome (Some Room) new passes = tt
    reply_has o outcome (Some (Gone slot)) new passes = tt

    ends_has : (o : OpId) (outcome : Outcome) (x : Both) → Replies o (Some outcome) → BothHave x → BothHave (item_ends o outcome x)
    ends_has o outcome x new old =
        let item : Option Carried = find (is_of o) x.here.standing in (
          (old.0.0, Each-less P (is_of o) x.here.standing old.0.1),
          (Each-append P x.back.flight (reply_to outcome item) old.1.0 (reply_has o outcome item new (λ found is. find_passes (is_of o) x.here.standing found is)), old.1.1),
        )

    leaves_has : (lane : BridgeLane) (o : OpId) (outcome : Option Outcome) (world : World) → Replies o outcome → WorldHas world → WorldHas (leaves lane o outcome world)
    leaves_has lane o None world new old = old
    leaves_has lane o (Some outcome) world new old = moved_has (item_ends o outcome) lane world (ends_has o outcome (both world lane) new) old

    initiator_has : (board : Board) (by : By) (o : OpId) (step : Step) (world : World) → RepliesBy board o step by → WorldHas world → WorldHas (at_initiator board by o step world)
    initiator_has board Master o step world new old = old
    initiator_has board (ByLane lane) o step world new old = leaves_has lane o (lane_outcome board lane o step) world new old

    -- after an act
    pub act_has : (rule : Rule) (board : Board) (on : ℕ) (by : By) (o : OpId) (step : Step) (place : Place) (world : World) → Enters o step → RepliesBy board o step by → WorldHas world → WorldHas (after_by rule board world (Act on by o step place))
    act_has rule board on by o step place world new back old =
        initiator_has board by o step (at_place board on (noted rule by) o step place world) back (place_has board on (noted rule by) o step place world new old)

    effect_has : (effect : Effect) (item : Carried) (x : Both) → P item → BothHave x → BothHave (takes_effect effect item x)
    effect_has Stands item x has old = ((old.0.0, Each-push P x.here.standing item old.0.1 has), old.1)
    effect_has Credits item x has old = old
    effect_has (Frees slot) item x has old = old
    effect_has (Drops slot) item x has old = (old.0, (Each-push P x.back.flight (Gone slot) old.1.0 (gone slot), old.1.1))

    first_has : (mark : Mark) (flight : List Carried) (x : Both) → AllByRecursion P flight → BothHave x → BothHave (arrives_first mark flight x)
    first_has mark [] x flying old = old
    first_has mark (item ∷ rest) x flying old = effect_has (effect_of mark item) item (record x { here = came_off item rest x.here }) flying.0 ((flying.1, old.0.1), old.1)

    -- after an arrival
    pub arrival_has : (rule : Rule) (board : Board) (lane : BridgeLane) (mark : Mark) (world : World) → WorldHas world → WorldHas (after_by rule board world (Arrive lane mark))
    arrival_has rule board lane mark world old = moved_has (arrives mark) lane world (λ has. first_has mark (both world lane).here.flight (both world lane) has.0.0 has) old
