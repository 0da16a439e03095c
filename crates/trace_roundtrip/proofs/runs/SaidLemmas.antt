-- The completions on the lanes say how their requests ended, in every run.
use Rattle.std.proofs.Common.{◌≡◌, ℕ, Bool, true, false, List, [], ◌∷◌, Option, Some, None, refl, subst}
use Rattle.std.specs.List.{find, AllByRecursion}
use Rattle.list_facts.proofs.EachLemmas.{Each-push, Each-append, Each-less}
use Rattle.pci_command.specs.declared.op_id.OpId.{OpId}
use Rattle.pci_command.specs.declared.op_id.Outcome.{Outcome}
use Rattle.board_model.specs.declared.bridge.Lane.{Lane as BridgeLane}
use Rattle.board_model.specs.declared.bridge.Place.{Place}
use Rattle.board_model.specs.declared.bridge.Place.TheVariants.{Target, Header, Lane, Nobody}
use Rattle.board_model.specs.declared.board.Board.{Board}
use Rattle.board_model.specs.Requests.{reads}
use Rattle.history_model.specs.declared.event.By.{By}
use Rattle.history_model.specs.declared.event.By.TheVariants.{Master, Lane as ByLane}
use Rattle.history_model.specs.declared.event.Mark.{Mark}
use Rattle.history_model.specs.declared.event.Step.{Step}
use Rattle.history_model.specs.declared.event.Step.TheVariants.{Land, Part, Read, Accept, Latch, Take, Stall, MasterAbort, TargetAbort}
use Rattle.history_model.specs.declared.event.Event.{Event}
use Rattle.history_model.specs.declared.event.Event.TheVariants.{Act, Arrive}
use Rattle.history_model.specs.declared.item.Carried.{Carried}
use Rattle.history_model.specs.declared.item.Carried.TheVariants.{Post, Ask, Done, Room, Gone}
use Rattle.history_model.specs.declared.item.Slot.{Slot}
use Rattle.history_model.specs.declared.item.Answer.TheVariants.{Gives}
use Rattle.history_model.specs.Lanes.{LaneState, Both, lowest_free, is_of, is_done_for, reply_to, item_ends, Effect, Stands, Credits, Frees, Drops, effect_of, takes_effect, came_off, arrives_first, arrives}
use Rattle.history_model.specs.World.{World, both, moved, is_own, slot_found, enters, at_place, unclaimed, mode_of, lane_outcome, leaves, at_initiator, world_of}
use Rattle.board_model.specs.Ways.{lane_back}
use Rattle.history_model.specs.Answers.{answer}
use Rattle.history_model.specs.Runs.{Allowed, Run}
use Rattle.trace_text.specs.Events.{is_completion}
use Rattle.history_model.proofs.facts.BridgeLemmas.{moved_keeps}
use Rattle.trace_roundtrip.specs.runs.Completions.{SaysHow}
use Rattle.trace_roundtrip.proofs.runs.ToldLemmas.{Suits, Told, answer_told}

-- every item on the lane that is a completion says how its request ended
abbrev LaneSays : LaneState → Type 0
LaneSays state = AllByRecursion SaysHow state.flight × AllByRecursion SaysHow state.standing

-- the same of a lane and the lane back
abbrev BothSay : Both → Type 0
BothSay x = LaneSays x.here × LaneSays x.back

-- the same of every lane of a world
abbrev pub WorldSays : World → Type 0
WorldSays world = (lane : BridgeLane) → LaneSays (world lane)

-- a move that keeps it on both lanes of a bridge keeps it on every lane
moved_says : (move : Both → Both) (lane : BridgeLane) (world : World) → (BothSay (both world lane) → BothSay (move (both world lane)))
    → WorldSays world → WorldSays (moved move lane world)
moved_says move lane world keeps old =
    let P : BridgeLane → Both → Type 0 = λ lane x. LaneSays x.here in
    let new : BothSay (move (both world lane)) = keeps (old lane, old (lane_back lane)) in
    moved_keeps P move lane world old new.0 new.1

-- a completion that is given leaves
slot_says : (own : Option Slot) (x : Both) → BothSay x → BothSay (slot_found own x)
slot_says None x old = old
slot_says (Some slot) x old = (old.0, (old.1.0, Each-less SaysHow (is_done_for slot.number) x.back.standing old.1.1))

-- what enters a lane is no completion
enters_says : (board : Board) (on : ℕ) (by : By) (o : OpId) (step : Step) (x : Both) → BothSay x → BothSay (enters board on by o step x)
enters_says board on by o Land x old = old
enters_says board on by o (Part phases) x old = old
enters_says board on by o (Read value) x old = old
enters_says board on by o Accept x old = ((Each-push SaysHow x.here.flight (Post o) old.0.0 tt, old.0.1), old.1)
enters_says board on by o Latch x old = ((Each-push SaysHow x.here.flight (Ask o (lowest_free x.here.held)) old.0.0 tt, old.0.1), old.1)
enters_says board on by o (Take outcome) x old = slot_says (find (is_own board on by o) x.here.held) x old
enters_says board on by o Stall x old = old
enters_says board on by o MasterAbort x old = old
enters_says board on by o TargetAbort x old = old

-- no step at a place brings another completion
place_says : (board : Board) (on : ℕ) (by : By) (o : OpId) (step : Step) (place : Place) (world : World) → WorldSays world → WorldSays (at_place board on by o step place world)
place_says board on by o step (Target target) world old = old
place_says board on by o step (Header bus) world old = old
place_says board on by o step (Lane lane) world old = moved_says (enters board on by o step) lane world (enters_says board on by o step (both world lane)) old
place_says board on by o step Nobody world old = old

-- how an item ends, if it does: with a completion
abbrev Completes : Option Outcome → Type 0
Completes None = Unit {0}
Completes (Some outcome) = is_completion outcome ≡ true

-- a request that nobody claimed ends with a completion, in both modes of a bridge
unclaimed_completes : (mode read : Bool) → is_completion (unclaimed mode read) ≡ true
unclaimed_completes false true = refl
unclaimed_completes false false = refl
unclaimed_completes true true = refl
unclaimed_completes true false = refl

-- each step ends the item of a lane with a completion, if it ends it
outcome_completes : (board : Board) (lane : BridgeLane) (o : OpId) (step : Step) (place : Place) → Suits board step place → Completes (lane_outcome board lane o step)
outcome_completes board lane o Land place suits = refl
outcome_completes board lane o (Part phases) place suits = tt
outcome_completes board lane o (Read value) place suits = refl
outcome_completes board lane o Accept place suits = refl
outcome_completes board lane o Latch place suits = tt
outcome_completes board lane o (Take outcome) place suits = suits.1
outcome_completes board lane o Stall place suits = tt
outcome_completes board lane o MasterAbort place suits = unclaimed_completes (mode_of board lane.bus) (reads board o)
outcome_completes board lane o TargetAbort place suits = refl

-- what goes back for an item says so
reply_says : (outcome : Outcome) (item : Option Carried) → is_completion outcome ≡ true → AllByRecursion SaysHow (reply_to outcome item)
reply_says outcome None completes = tt
reply_says outcome (Some (Post op)) completes = (tt, tt)
reply_says outcome (Some (Ask op slot)) completes = (completes, tt)
reply_says outcome (Some (Done op slot given)) completes = tt
reply_says outcome (Some Room) completes = tt
reply_says outcome (Some (Gone slot)) completes = tt

-- an item that ends with a completion keeps it on both lanes
ends_says : (o : OpId) (outcome : Outcome) (x : Both) → is_completion outcome ≡ true → BothSay x → BothSay (item_ends o outcome x)
ends_says o outcome x completes old =
    let item : Option Carried = find (is_of o) x.here.standing in (
      (old.0.0, Each-less SaysHow (is_of o) x.here.standing old.0.1),
      (Each-append SaysHow x.back.flight (reply_to outcome item) old.1.0 (reply_says outcome item completes), old.1.1),
    )

-- so does an item that a lane presented
leaves_says : (lane : BridgeLane) (o : OpId) (outcome : Option Outcome) (world : World) → Completes outcome → WorldSays world → WorldSays (leaves lane o outcome world)
leaves_says lane o None world completes old = old
leaves_says lane o (Some outcome) world completes old = moved_says (item_ends o outcome) lane world (ends_says o outcome (both world lane) completes) old

-- so does a step at its initiator
initiator_says : (board : Board) (by : By) (o : OpId) (step : Step) (place : Place) (world : World) → Suits board step place → WorldSays world → WorldSays (at_initiator board by o step world)
initiator_says board Master o step place world suits old = old
initiator_says board (ByLane lane) o step place world suits old = leaves_says lane o (lane_outcome board lane o step) world (outcome_completes board lane o step place suits) old

-- an arrival changes no item
effect_says : (effect : Effect) (item : Carried) (x : Both) → SaysHow item → BothSay x → BothSay (takes_effect effect item x)
effect_says Stands item x says old = ((old.0.0, Each-push SaysHow x.here.standing item old.0.1 says), old.1)
effect_says Credits item x says old = old
effect_says (Frees slot) item x says old = old
effect_says (Drops slot) item x says old = (old.0, (Each-push SaysHow x.back.flight (Gone slot) old.1.0 tt, old.1.1))

-- the first item in flight arrives
first_says : (mark : Mark) (flight : List Carried) (x : Both) → AllByRecursion SaysHow flight → BothSay x → BothSay (arrives_first mark flight x)
first_says mark [] x flying old = old
first_says mark (item ∷ rest) x flying old = effect_says (effect_of mark item) item (record x { here = came_off item rest x.here }) flying.0 ((flying.1, old.0.1), old.1)

-- an arrival keeps it on both lanes
arrives_says : (mark : Mark) (x : Both) → BothSay x → BothSay (arrives mark x)
arrives_says mark x old = first_says mark x.here.flight x old.0.0 old

-- what an answer of a run tells of its step and place
pub run_told : (board : Board) (h : List Event) (on : ℕ) (by : By) (o : OpId) (step : Step) (place : Place) → WorldSays (world_of board h)
    → answer board h on by o ≡ Gives step place → Told board (Gives step place)
run_told board h on by o step place old gives = subst (Told board) gives (answer_told board h on by o (λ lane. (old lane).1))

-- an event of a run keeps it
event_says : (board : Board) (h : List Event) (e : Event) → Allowed board h e → WorldSays (world_of board h) → WorldSays (world_of board (e ∷ h))
event_says board h (Act on by o step place) allowed old =
    let world : World = world_of board h in
    let told = run_told board h on by o step place old allowed.1 in
    initiator_says board by o step place (at_place board on by o step place world) told.1 (place_says board on by o step place world old)
event_says board h (Arrive lane mark) allowed old =
    let world : World = world_of board h in
    moved_says (arrives mark) lane world (arrives_says mark (both world lane)) old

-- it holds in every run
pub WorldSays-run : (board : Board) (h : List Event) → Run board h → WorldSays (world_of board h)
WorldSays-run board [] run = λ lane. (tt, tt)
WorldSays-run board (e ∷ h) run = event_says board h e run.0 (WorldSays-run board h run.1)
