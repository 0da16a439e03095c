-- A phase of all segments: each does its turn, and then all ends of lanes are settled.
use Rattle.std.specs.Prelude.{◌≡◌, ℕ, ◌+◌, ◌<◌, ◌≤◌, Bool, true, false, List, ◌++◌, length, map, reverse, max, Some, slice_get}
use Rattle.std.specs.List.{AllByRecursion}
use Rattle.list_facts.specs.Lists.{total}
use Rattle.board_model.specs.Limits.{most_waiting}
use Rattle.board_model.specs.declared.bridge.Bridge.{Bridge}
use Rattle.board_model.specs.declared.bridge.Lane.{Lane as BridgeLane}
use Rattle.board_model.specs.declared.board.Board.{Board}
use Rattle.board_model.specs.Valid.{is_bus}
use Rattle.board_model.specs.Ways.{bound_of, lane_back}
use Rattle.history_model.specs.declared.event.Event.{Event}
use Rattle.history_model.specs.declared.event.Stamped.{Stamped}
use Rattle.history_model.specs.Answers.{bridge_to}
use Rattle.history_model.specs.Runs.{Run, Complete}
use Rattle.law_local.specs.Stamps.{events_of}
use Rattle.lane_items.specs.declared.item.Item.{Item}
use Rattle.lane_items.specs.Lane.{in_hand, GotInOrder, left_count, Crosses, IsEmptied}
use Rattle.bus_core.specs.Bus.{shape_of}
use Rattle.bus_core.specs.Calls.{stamp_of}
use Rattle.bus_segment.specs.Stands.{WorkerView}
use Rattle.bus_segment.specs.Steps.{StampsRise}
use Rattle.bus_segment.specs.Turn.{Does, IsQuietAtZero}
use Rattle.engine_phases.specs.merging.Merged.{merged}
use Rattle.engine_phases.specs.Workers.{EndAt, AreBetween}

-- Between phases.

-- no two workers are of one bus, each is of one that the board has, and each has an end at the port of each lane, which is
-- a lane of a bridge
pub record AreApart {End : Type 0} (board : Board) (workers : List (WorkerView End)) : Type 0 where
  pub apart : (k m : ℕ) (w v : WorkerView End) → slice_get workers k ≡ Some w → slice_get workers m ≡ Some v → w.segment.bus.bus ≡ v.segment.bus.bus → k ≡ m
  pub there : (k : ℕ) (w : WorkerView End) → slice_get workers k ≡ Some w → is_bus board w.segment.bus.bus ≡ true
  pub bridges : (k : ℕ) (w : WorkerView End) (n : ℕ) (lane : BridgeLane) → slice_get workers k ≡ Some w → slice_get (shape_of w.segment.bus).lanes n ≡ Some lane
      → (bridge : Bridge) × (bridge_to board lane.bus ≡ Some bridge)
  pub one_a_port : (k : ℕ) (w : WorkerView End) → slice_get workers k ≡ Some w → length w.ends ≡ length (shape_of w.segment.bus).lanes

-- how many events all workers recorded
abbrev pub count_all : {End : Type 0} → List (WorkerView End) → ℕ
count_all {End} workers = total (λ (w : WorkerView End). length w.events) workers

-- After so many phases, each of which made an event: no stamp is above the number of the last one.
pub record AfterPhases {End : Type 0} (had sent got : End → List Item) (kept : End → ℕ) (paired : End → End → Type 0) (board : Board) (workers : List (WorkerView End)) (phases : ℕ) : Type 0 where
  pub received : BridgeLane → List Item
  pub hand : BridgeLane → List Item
  pub part : ℕ → List Stamped
  pub between : AreBetween had sent got kept paired board workers received hand part
  pub apart : AreApart board workers
  pub stamps : (k : ℕ) (w : WorkerView End) → slice_get workers k ≡ Some w → w.segment.stamp ≤ phases
  pub hand_stamps : (lane : BridgeLane) → AllByRecursion (λ (item : Item). stamp_of item ≤ phases) (hand lane)
  pub many : phases ≤ count_all workers

-- Turns.

-- the worker when the phase of this number begins: later events have stamps from that number on
abbrev pub begun : {End : Type 0} → ℕ → WorkerView End → WorkerView End
begun phase w =
    record { segment = record { bus = w.segment.bus; stamp = max w.segment.stamp phase; stopped = w.segment.stopped }; ends = w.ends; events = w.events }

-- what a worker did in a turn that made so many events
pub record Turned {End : Type 0} (had sent got : End → List Item) (kept : End → ℕ) (paired : End → End → Type 0) (board : Board) (old new : WorkerView End) (count : ℕ) : Type 0 where
  pub shape : shape_of new.segment.bus ≡ shape_of old.segment.bus
  pub does : Does had sent got kept paired board old.segment new.segment old.ends new.ends old.events new.events
  pub many : length new.events ≡ length old.events + count
  pub quiet : IsQuietAtZero had got board old.segment new.segment new.ends count
  pub stamps : StampsRise sent got old.segment.stamp new.segment.stamp old.ends new.ends

-- each worker did its turn of the phase; if that was not busy, none made an event
pub record AllTurned {End : Type 0} (had sent got : End → List Item) (kept : End → ℕ) (paired : End → End → Type 0) (board : Board) (phase : ℕ) (old new : List (WorkerView End)) (busy : Bool) : Type 0 where
  pub each : (k : ℕ) (w : WorkerView End) → slice_get old k ≡ Some w
      → (v : WorkerView End) × (count : ℕ) × (slice_get new k ≡ Some v) × Turned had sent got kept paired board (begun phase w) v count × (busy ≡ false → count ≡ 0)
  pub many : length new ≡ length old
  pub grows : busy ≡ true → count_all old < count_all new

-- none of them stopped
pub record NoneStopped {End : Type 0} (workers : List (WorkerView End)) : Type 0 where
  pub going : (k : ℕ) (w : WorkerView End) → slice_get workers k ≡ Some w → w.segment.stopped ≡ false

-- in a phase an end gives only what was in hand when it began: what is sent comes across when it ends
abbrev pub CrossesAtSettle : {End : Type 0} → (End → List Item) → (End → List Item) → Type 0
CrossesAtSettle {End} had got = (end : End) → got end ++ in_hand (had end) (got end) ≡ had end

-- Settles.

-- the ends of the two lanes of each bridge may be settled
pub record AllMaySettle {End : Type 0} (had sent got : End → List Item) (kept : End → ℕ) (paired : End → End → Type 0) (workers : List (WorkerView End)) : Type 0 where
  pub pairs : (k m : ℕ) (w v : WorkerView End) (lane : BridgeLane) (far near : End) → slice_get workers k ≡ Some w → slice_get workers m ≡ Some v → EndAt w lane far → EndAt v (lane_back lane) near
      → paired far near
  pub fits : (k m : ℕ) (w v : WorkerView End) (lane : BridgeLane) (far near : End) → slice_get workers k ≡ Some w → slice_get workers m ≡ Some v → EndAt w lane far → EndAt v (lane_back lane) near
      → GotInOrder (had far) (got far) (sent near) (kept near) → GotInOrder (had near) (got near) (sent far) (kept far)
      → (left_count (had far) (got far) (sent near) ≤ most_waiting) × (left_count (had near) (got near) (sent far) ≤ most_waiting)

-- a lane is settled: what its near end sent, and its far end did not get, is in hand at the far end
pub record LaneSettled {End : Type 0} (had sent got : End → List Item) (kept : End → ℕ) (paired : End → End → Type 0) (far near far_after near_after : End) : Type 0 where
  pub crosses : Crosses (had far) (got far) (sent near) (kept near) (had far_after)
  pub emptied : IsEmptied (sent far_after) (got far_after) (kept far_after)
  pub pairs : paired far_after near_after

-- nothing of the worker changed but its ends
pub record OnlyEnds {End : Type 0} (old new : WorkerView End) : Type 0 where
  pub segment : new.segment ≡ old.segment
  pub events : new.events ≡ old.events
  pub many : length new.ends ≡ length old.ends

-- all lanes are settled, and nothing else changed
pub record AllSettled {End : Type 0} (had sent got : End → List Item) (kept : End → ℕ) (paired : End → End → Type 0) (old new : List (WorkerView End)) : Type 0 where
  pub each : (k : ℕ) (w : WorkerView End) → slice_get old k ≡ Some w → (v : WorkerView End) × (slice_get new k ≡ Some v) × OnlyEnds w v
  pub many : length new ≡ length old
  pub lanes : (k m : ℕ) (w v w_after v_after : WorkerView End) (lane : BridgeLane) (far near far_after near_after : End)
      → slice_get old k ≡ Some w → slice_get old m ≡ Some v → slice_get new k ≡ Some w_after → slice_get new m ≡ Some v_after
      → EndAt w lane far → EndAt v (lane_back lane) near → EndAt w_after lane far_after → EndAt v_after (lane_back lane) near_after
      → LaneSettled had sent got kept paired far near far_after near_after

-- The end.

-- what all workers did, as one history: in the order of the stamps, newest first
abbrev pub history_of_all : {End : Type 0} → List (WorkerView End) → List Event
history_of_all {End} workers = events_of (reverse (merged (map (λ (w : WorkerView End). w.events) workers)))

-- it is a complete run of the board, no longer than runs of it are
pub record IsCompleteRun (board : Board) (h : List Event) : Type 0 where
  pub run : Run board h
  pub complete : Complete board h
  pub bound : length h ≤ bound_of board
