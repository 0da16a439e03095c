-- The completions of one operation on the lanes, and what an event does to them.
use Rattle.std.proofs.Common.{◌≡◌, ℕ, Bool, true, false, List, [], ◌∷◌, Option, Some, None, refl, sym, subst}
use Rattle.std.specs.List.{find, AllByRecursion}
use Rattle.list_facts.proofs.EachLemmas.{Each-push, Each-append, Each-less}
use Rattle.list_facts.proofs.FindLemmas.{find_passes}
use Rattle.pci_command.specs.declared.op_id.OpId.{OpId}
use Rattle.pci_command.specs.declared.op_id.Outcome.{Outcome}
use Rattle.pci_command.specs.declared.op_id.Outcome.TheVariants.{Value, Written, Aborted, Nobody as NobodyClaimed}
use Rattle.pci_command.specs.Same.{same_op}
use Rattle.board_model.specs.declared.bridge.Lane.{Lane as BridgeLane}
use Rattle.board_model.specs.declared.bridge.Place.{Place}
use Rattle.board_model.specs.declared.bridge.Place.TheVariants.{Target, Header, Lane, Nobody}
use Rattle.board_model.specs.declared.board.Board.{Board}
use Rattle.history_model.specs.declared.event.By.{By}
use Rattle.history_model.specs.declared.event.By.TheVariants.{Master, Lane as ByLane}
use Rattle.history_model.specs.declared.event.Mark.{Mark}
use Rattle.history_model.specs.declared.event.Step.{Step}
use Rattle.history_model.specs.declared.event.Step.TheVariants.{Land, Part, Read, Accept, Latch, Take, Stall, MasterAbort, TargetAbort}
use Rattle.history_model.specs.declared.event.Event.TheVariants.{Act, Arrive}
use Rattle.history_model.specs.declared.item.Carried.{Carried}
use Rattle.history_model.specs.declared.item.Carried.TheVariants.{Post, Ask, Done, Room, Gone}
use Rattle.history_model.specs.declared.item.Slot.{Slot}
use Rattle.history_model.specs.Lanes.{LaneState, Both, lowest_free, is_of, is_done_for, reply_to, item_ends, Effect, Stands, Credits, Frees, Drops, effect_of, takes_effect, came_off, arrives_first, arrives}
use Rattle.history_model.specs.World.{World, both, moved, is_own, slot_found, enters, at_place, lane_outcome, leaves, at_initiator, after}
use Rattle.board_model.specs.Ways.{lane_back}
use Rattle.history_model.specs.Knowledge.{Reading}
use Rattle.history_model.proofs.facts.BridgeLemmas.{moved_keeps}
use Rattle.history_model.proofs.facts.RequestLemmas.{same_op_true}

-- an outcome says what was last read; where nothing was, there is no word
abbrev pub Good : Bool → Option Reading → Outcome → Type 0
Good word None outcome = word ≡ false
Good word (Some reading) (Value value) = value ≡ reading.value
Good word (Some reading) Written = ⊥
Good word (Some reading) Aborted = ⊥
Good word (Some reading) NobodyClaimed = ⊥

-- so does a completion of the operation
abbrev pub Fits : OpId → Bool → Option Reading → Carried → Type 0
Fits o word last (Post op) = Unit {0}
Fits o word last (Ask op slot) = Unit {0}
Fits o word last (Done op slot outcome) = same_op op o ≡ true → Good word last outcome
Fits o word last Room = Unit {0}
Fits o word last (Gone slot) = Unit {0}

-- so does each item on a lane
abbrev pub LaneFits : OpId → Bool → Option Reading → LaneState → Type 0
LaneFits o word last state = AllByRecursion (Fits o word last) state.flight × AllByRecursion (Fits o word last) state.standing

-- the same of every lane of a world
abbrev pub WorldFits : OpId → Bool → Option Reading → World → Type 0
WorldFits o word last world = (lane : BridgeLane) → LaneFits o word last (world lane)

-- the operation ends so, if it is the one and ends
abbrev pub Brings : OpId → Bool → Option Reading → OpId → Option Outcome → Type 0
Brings o word last p None = Unit {0}
Brings o word last p (Some outcome) = same_op p o ≡ true → Good word last outcome

-- the event ends an item of a lane so, if it does
abbrev pub BringsBy : Board → OpId → Bool → Option Reading → OpId → Step → By → Type 0
BringsBy board o word last p step Master = Unit {0}
BringsBy board o word last p step (ByLane lane) = Brings o word last p (lane_outcome board lane p step)

module _ (o : OpId) (word : Bool) (last : Option Reading) where
  -- what fits
  abbrev Fit : Carried → Type 0
  Fit = Fits o word last

  -- of a lane and the lane back
  abbrev BothFit : Both → Type 0
  BothFit x = LaneFits o word last x.here × LaneFits o word last x.back

  -- a move that keeps it on both lanes of a bridge keeps it on every lane
  moved_fits : (move : Both → Both) (lane : BridgeLane) (world : World) → (BothFit (both world lane) → BothFit (move (both world lane)))
      → WorldFits o word last world → WorldFits o word last (moved move lane world)
  moved_fits move lane world keeps old =
      let P : BridgeLane → Both → Type 0 = λ lane x. LaneFits o word last x.here in
      let new : BothFit (move (both world lane)) = keeps (old lane, old (lane_back lane)) in
      moved_keeps P move lane world old new.0 new.1

  -- a completion that is given leaves
  slot_fits : (own : Option Slot) (x : Both) → BothFit x → BothFit (slot_found own x)
  slot_fits None x old = old
  slot_fits (Some slot) x old = (old.0, (old.1.0, Each-less Fit (is_done_for slot.number) x.back.standing old.1.1))

  -- what enters a lane is no completion
  enters_fits : (board : Board) (on : ℕ) (by : By) (p : OpId) (step : Step) (x : Both) → BothFit x → BothFit (enters board on by p step x)
  enters_fits board on by p Land x old = old
  enters_fits board on by p (Part phases) x old = old
  enters_fits board on by p (Read value) x old = old
  enters_fits board on by p Accept x old = ((Each-push Fit x.here.flight (Post p) old.0.0 tt, old.0.1), old.1)
  enters_fits board on by p Latch x old = ((Each-push Fit x.here.flight (Ask p (lowest_free x.here.held)) old.0.0 tt, old.0.1), old.1)
  enters_fits board on by p (Take outcome) x old = slot_fits (find (is_own board on by p) x.here.held) x old
  enters_fits board on by p Stall x old = old
  enters_fits board on by p MasterAbort x old = old
  enters_fits board on by p TargetAbort x old = old

  -- no step at a place brings another completion
  place_fits : (board : Board) (on : ℕ) (by : By) (p : OpId) (step : Step) (place : Place) (world : World) → WorldFits o word last world → WorldFits o word last (at_place board on by p step place world)
  place_fits board on by p step (Target target) world old = old
  place_fits board on by p step (Header bus) world old = old
  place_fits board on by p step (Lane lane) world old = moved_fits (enters board on by p step) lane world (enters_fits board on by p step (both world lane)) old
  place_fits board on by p step Nobody world old = old

  -- what goes back for an item of the operation that ended
  reply_fits : (p : OpId) (outcome : Outcome) (item : Option Carried) → Brings o word last p (Some outcome) → ((found : Carried) → item ≡ Some found → is_of p found ≡ true) → AllByRecursion Fit (reply_to outcome item)
  reply_fits p outcome None brings passes = tt
  reply_fits p outcome (Some (Post q)) brings passes = (tt, tt)
  reply_fits p outcome (Some (Ask q slot)) brings passes =
      let same : p ≡ q = same_op_true p q (passes (Ask q slot) refl) in
      (λ is. brings (subst (λ r. same_op r o ≡ true) (sym same) is), tt)
  reply_fits p outcome (Some (Done q slot given)) brings passes = tt
  reply_fits p outcome (Some Room) brings passes = tt
  reply_fits p outcome (Some (Gone slot)) brings passes = tt

  -- an item that ends keeps it on both lanes
  ends_fits : (p : OpId) (outcome : Outcome) (x : Both) → Brings o word last p (Some outcome) → BothFit x → BothFit (item_ends p outcome x)
  ends_fits p outcome x brings old =
      let item : Option Carried = find (is_of p) x.here.standing in (
        (old.0.0, Each-less Fit (is_of p) x.here.standing old.0.1),
        (Each-append Fit x.back.flight (reply_to outcome item) old.1.0 (reply_fits p outcome item brings (λ found is. find_passes (is_of p) x.here.standing found is)), old.1.1),
      )

  -- so does an item that a lane presented
  leaves_fits : (lane : BridgeLane) (p : OpId) (outcome : Option Outcome) (world : World) → Brings o word last p outcome → WorldFits o word last world → WorldFits o word last (leaves lane p outcome world)
  leaves_fits lane p None world brings old = old
  leaves_fits lane p (Some outcome) world brings old = moved_fits (item_ends p outcome) lane world (ends_fits p outcome (both world lane) brings) old

  -- so does a step at its initiator
  initiator_fits : (board : Board) (by : By) (p : OpId) (step : Step) (world : World) → BringsBy board o word last p step by → WorldFits o word last world → WorldFits o word last (at_initiator board by p step world)
  initiator_fits board Master p step world brings old = old
  initiator_fits board (ByLane lane) p step world brings old = leaves_fits lane p (lane_outcome board lane p step) world brings old

  -- an act keeps it where it ends the item of a lane so
  pub act_fits : (board : Board) (on : ℕ) (by : By) (p : OpId) (step : Step) (place : Place) (world : World) → BringsBy board o word last p step by → WorldFits o word last world → WorldFits o word last (after board world (Act on by p step place))
  act_fits board on by p step place world brings old = initiator_fits board by p step (at_place board on by p step place world) brings (place_fits board on by p step place world old)

  -- an arrival changes no item
  effect_fits : (effect : Effect) (item : Carried) (x : Both) → Fit item → BothFit x → BothFit (takes_effect effect item x)
  effect_fits Stands item x fits old = ((old.0.0, Each-push Fit x.here.standing item old.0.1 fits), old.1)
  effect_fits Credits item x fits old = old
  effect_fits (Frees slot) item x fits old = old
  effect_fits (Drops slot) item x fits old = (old.0, (Each-push Fit x.back.flight (Gone slot) old.1.0 tt, old.1.1))

  -- the first item in flight arrives
  first_fits : (mark : Mark) (flight : List Carried) (x : Both) → AllByRecursion Fit flight → BothFit x → BothFit (arrives_first mark flight x)
  first_fits mark [] x flying old = old
  first_fits mark (item ∷ rest) x flying old = effect_fits (effect_of mark item) item (record x { here = came_off item rest x.here }) flying.0 ((flying.1, old.0.1), old.1)

  -- an arrival keeps it
  pub arrival_fits : (lane : BridgeLane) (mark : Mark) (board : Board) (world : World) → WorldFits o word last world → WorldFits o word last (after board world (Arrive lane mark))
  arrival_fits lane mark board world old = moved_fits (arrives mark) lane world (λ fit. first_fits mark (both world lane).here.flight (both world lane) fit.0.0 fit) old
