-- All segments of a board between two phases, and when each did its turns of a phase: `received` is what came on each lane
-- to the bus where it ends, `hand` what is in hand there when a phase begins, and `part` what each bus did, newest first.
-- `had`, `sent`, `got`, `kept` and `paired` are what an end of lanes tells of itself.
use Rattle.std.specs.Prelude.{◌≡◌, ℕ, ◌<◌, true, false, List, [], ◌++◌, reverse, Option, Some, None, slice_get}
use Rattle.board_model.specs.declared.bridge.Lane.{Lane as BridgeLane}
use Rattle.board_model.specs.declared.board.Board.{Board}
use Rattle.board_model.specs.Valid.{is_bus}
use Rattle.board_model.specs.Ways.{end_of, lane_back}
use Rattle.history_model.specs.declared.event.Stamped.{Stamped}
use Rattle.lane_items.specs.declared.item.Item.{Item}
use Rattle.lane_items.specs.Lane.{IsEmptied}
use Rattle.bus_core.specs.Bus.{shape_of, IsOf}
use Rattle.bus_core.specs.Calls.{stamp_of}
use Rattle.bus_segment.specs.Segment.{SegmentGoes}
use Rattle.bus_segment.specs.Stands.{WorkerView, SegmentStands}
use Rattle.law_local.specs.phases.Engine.{NoneElsewhere}

-- of the items of all lanes, those of the lane at each port
abbrev pub at_port : (BridgeLane → List Item) → Option BridgeLane → List Item
at_port items None = []
at_port items (Some lane) = items lane

-- those of the lane at the port of this number of a worker
abbrev pub at_ports : {End : Type 0} → WorkerView End → (BridgeLane → List Item) → ℕ → List Item
at_ports w items n = at_port items (slice_get (shape_of w.segment.bus).lanes n)

-- and of the lanes back, which begin there
abbrev pub back_at_ports : {End : Type 0} → WorkerView End → (BridgeLane → List Item) → ℕ → List Item
back_at_ports w items n = at_ports w (λ lane. items (lane_back lane)) n

-- the worker's end at the port of the lane
pub record EndAt {End : Type 0} (w : WorkerView End) (lane : BridgeLane) (end : End) : Type 0 where
  pub port : ℕ
  pub lane_is : slice_get (shape_of w.segment.bus).lanes port ≡ Some lane
  pub end_is : slice_get w.ends port ≡ Some end

-- the workers are those of the board: one for each of its buses, with a port for each lane that ends there
pub record AreWorkers {End : Type 0} (board : Board) (workers : List (WorkerView End)) : Type 0 where
  pub of_board : (k : ℕ) (w : WorkerView End) → slice_get workers k ≡ Some w → IsOf board (shape_of w.segment.bus)
  pub ends_there : (k : ℕ) (w : WorkerView End) (n : ℕ) (lane : BridgeLane) → slice_get workers k ≡ Some w → slice_get (shape_of w.segment.bus).lanes n ≡ Some lane
      → end_of board lane ≡ w.segment.bus.bus
  pub each_bus : (bus : ℕ) → is_bus board bus ≡ true → (k : ℕ) × (w : WorkerView End) × (slice_get workers k ≡ Some w) × (w.segment.bus.bus ≡ bus)

-- Between two phases.
pub record AreBetween {End : Type 0} (had sent got : End → List Item) (kept : End → ℕ) (paired : End → End → Type 0) (board : Board) (workers : List (WorkerView End))
    (received hand : BridgeLane → List Item) (part : ℕ → List Stamped) : Type 0 where
  pub are_workers : AreWorkers board workers
  -- none stopped, and each stands for what it recorded, having put what was received or is in hand
  pub going : (k : ℕ) (w : WorkerView End) → slice_get workers k ≡ Some w → w.segment.stopped ≡ false
  pub recorded : (k : ℕ) (w : WorkerView End) → slice_get workers k ≡ Some w → part w.segment.bus.bus ≡ reverse w.events
  pub stands : (k : ℕ) (w : WorkerView End) → slice_get workers k ≡ Some w
      → SegmentStands board w.segment (part w.segment.bus.bus) (at_ports w received) (back_at_ports w (λ lane. received lane ++ hand lane))
  -- the ends are emptied, with this in hand, and those of a bridge are paired
  pub emptied : (k : ℕ) (w : WorkerView End) (lane : BridgeLane) (end : End) → slice_get workers k ≡ Some w → EndAt w lane end → IsEmptied (sent end) (got end) (kept end)
  pub in_hand : (k : ℕ) (w : WorkerView End) (lane : BridgeLane) (end : End) → slice_get workers k ≡ Some w → EndAt w lane end → had end ≡ hand lane
  pub pairs : (k m : ℕ) (w v : WorkerView End) (lane : BridgeLane) (end other : End) → slice_get workers k ≡ Some w → slice_get workers m ≡ Some v → EndAt w lane end → EndAt v (lane_back lane) other
      → paired end other
  -- nothing is elsewhere
  pub no_other : (bus : ℕ) → is_bus board bus ≡ false → part bus ≡ []
  pub received_there : NoneElsewhere board received
  pub hand_there : NoneElsewhere board hand

-- What one worker did in a phase, and what all took, did not take and sent, lane by lane.
pub record DidPhase {End : Type 0} (board : Board) (old new : WorkerView End) (later : List Stamped) (taken sent : BridgeLane → List Item) : Type 0 where
  pub same_shape : shape_of new.segment.bus ≡ shape_of old.segment.bus
  pub goes : SegmentGoes board old.segment new.segment later (at_ports old taken) (back_at_ports old sent)

-- all workers did
pub record AllDidPhase {End : Type 0} (board : Board) (old new : List (WorkerView End)) (taken not_taken sent : BridgeLane → List Item) (part : ℕ → List Stamped) (later : ℕ → List Stamped) : Type 0 where
  pub each : (k : ℕ) (w : WorkerView End) → slice_get old k ≡ Some w
      → (v : WorkerView End) × (slice_get new k ≡ Some v) × DidPhase board w v (later w.segment.bus.bus) taken sent
  pub no_other : (bus : ℕ) → is_bus board bus ≡ false → later bus ≡ []
  pub taken_there : NoneElsewhere board taken
  pub not_taken_there : NoneElsewhere board not_taken
  pub sent_there : NoneElsewhere board sent

-- an item, where there is one, has a stamp below this
abbrev pub IsStampedBelow : ℕ → Option Item → Type 0
IsStampedBelow most None = Unit {0}
IsStampedBelow most (Some item) = stamp_of item < most
