-- The turns of a phase, each bus by itself.
use Rattle.std.specs.Prelude.{◌≡◌, ℕ, ◌-◌, ◌<◌, ◌≤◌, Bool, true, false, List, length, slice_index_or, vec_len}
use Rattle.std.specs.Vec.{vec_capacity}
use Rattle.board_model.specs.Limits.{room_of_a_turn}
use Rattle.board_model.specs.declared.board.Board.{Board}
use Rattle.board_model.specs.Valid.{IsValid}
use Rattle.lane_items.specs.declared.item.Item.{Item}
use Rattle.bus_segment.specs.Stands.{WorkerView}
use Rattle.bus_segment.specs.Steps.{ArrivedUpTo}
use Rattle.bus_segment.specs.declared.turns.worker.Worker.{Worker}
use Rattle.engine_phases.specs.Phase.{Turned}
use Rattle.engine_runs.specs.Loop.{seen, IsReady}

-- a worker of a valid board may do a turn, and has room for its events
pub record HasRoom {End : Type 0} (board : Board) (w : Worker End) : Type 0 where
  pub valid : IsValid board
  pub ready : IsReady (seen w)
  pub room : room_of_a_turn ≤ vec_capacity w.segment.events - vec_len w.segment.events

-- what a worker did in one turn or more; if it goes on, it made an event and may do another turn
pub record HasTurned {End : Type 0} (had sent got : End → List Item) (kept : End → ℕ) (paired : End → End → Type 0) (board : Board) (old : WorkerView End) (new : Worker End) (goes_on : Bool) : Type 0 where
  pub count : ℕ
  pub turned : Turned had sent got kept paired board old (seen new) count
  pub counts : new.segment.stopped ≡ false → ArrivedUpTo (length new.segment.events.items) new.segment.bus
  pub some : goes_on ≡ true → 0 < count
  pub room : goes_on ≡ true → HasRoom board new

-- what it did in a phase
pub record Ran {End : Type 0} (had sent got : End → List Item) (kept : End → ℕ) (paired : End → End → Type 0) (board : Board) (old new : WorkerView End) : Type 0 where
  pub count : ℕ
  pub turned : Turned had sent got kept paired board old new count
  pub counts : new.segment.stopped ≡ false → ArrivedUpTo (length new.events) new.segment.bus

-- so each did
pub record EachRan {End : Type 0} (had sent got : End → List Item) (kept : End → ℕ) (paired : End → End → Type 0) (board : Board) (old new : List (Worker End)) : Type 0 where
  pub many : length new ≡ length old
  pub each : (k : ℕ) (d : Worker End) → k < length old → Ran had sent got kept paired board (seen (slice_index_or old k d)) (seen (slice_index_or new k d))
