-- Phases in which each worker does turns of its own, one after another.
use Rattle.std.specs.Prelude.{◌≡◌, ℕ, ◌+◌, ◌-◌, ◌<◌, ◌≤◌, List, length, max, Some, slice_get, slice_index_or, vec_len}
use Rattle.std.specs.Vec.{vec_capacity}
use Rattle.board_model.specs.Limits.{room_of_a_turn}
use Rattle.board_model.specs.declared.board.Board.{Board}
use Rattle.lane_items.specs.declared.item.Item.{Item}
use Rattle.bus_segment.specs.Stands.{WorkerView}
use Rattle.bus_segment.specs.declared.turns.worker.Worker.{Worker}
use Rattle.engine_phases.specs.ring.Rounds.{AfterRounds}
use Rattle.engine_runs.specs.declared.settling.Above.{Above}
use Rattle.engine_runs.specs.Loop.{AreReady}
use Rattle.engine_runs.specs.Settling.{AreAbove, HangBelow}

-- after so many phases each worker may do its next turns, and where the lanes of bridges end is known
pub record IsInRounds {End : Type 0} (had sent got : End → List Item) (kept : End → ℕ) (paired : End → End → Type 0) (board : Board) (workers : List (WorkerView End)) (above : List Above) (phases : ℕ) : Type 0 where
  pub after : AfterRounds had sent got kept paired board workers phases
  pub ready : AreReady workers
  pub hang : HangBelow workers
  pub linked : AreAbove workers above

-- no worker has a greater stamp
pub record StampsUpTo {End : Type 0} (most : ℕ) (workers : List (WorkerView End)) : Type 0 where
  pub up_to : (k : ℕ) (w : WorkerView End) → slice_get workers k ≡ Some w → w.segment.stamp ≤ most

-- the number is above the stamp of each worker, and at most one more than the greatest
pub record IsNextStamp {End : Type 0} (workers : List (WorkerView End)) (next : ℕ) : Type 0 where
  pub above : (k : ℕ) (w : WorkerView End) → slice_get workers k ≡ Some w → w.segment.stamp < next
  pub least : (most : ℕ) → StampsUpTo most workers → next ≤ most + 1

-- a worker began the phase: later events have stamps from the number on, there is room for those of a turn, and nothing
-- else changed
pub record HasBegun {End : Type 0} (from : ℕ) (old new : Worker End) : Type 0 where
  pub bus : new.segment.bus ≡ old.segment.bus
  pub stamp : new.segment.stamp ≡ max old.segment.stamp from
  pub stopped : new.segment.stopped ≡ old.segment.stopped
  pub ends : new.segment.ends.items ≡ old.segment.ends.items
  pub events : new.segment.events.items ≡ old.segment.events.items
  pub room : room_of_a_turn ≤ vec_capacity new.segment.events - vec_len new.segment.events

-- so each did
pub record EachBegun {End : Type 0} (from : ℕ) (old new : List (Worker End)) : Type 0 where
  pub many : length new ≡ length old
  pub each : (k : ℕ) (d : Worker End) → k < length old → HasBegun from (slice_index_or old k d) (slice_index_or new k d)
