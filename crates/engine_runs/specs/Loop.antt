-- The loop over the phases: what its calls do with the workers.
use Rattle.std.specs.Prelude.{◌≡◌, ℕ, ◌<◌, ◌≤◌, Bool, true, false, List, length, map, Some, slice_get}
use Rattle.board_model.specs.Limits.{most_agents, most_ports}
use Rattle.board_model.specs.declared.board.Board.{Board}
use Rattle.lane_items.specs.declared.item.Item.{Item}
use Rattle.bus_segment.specs.Stands.{WorkerView}
use Rattle.bus_segment.specs.Steps.{ArrivedUpTo}
use Rattle.bus_segment.specs.turns.Works.{GivesOnlyRetries}
use Rattle.bus_segment.specs.declared.turns.worker.Worker.{Worker}
use Rattle.engine_phases.specs.Phase.{Turned, AllTurned, begun}

-- a worker as the laws of phases see it
abbrev pub seen : {End : Type 0} → Worker End → WorkerView End
seen w =
    record {
      segment = record { bus = w.segment.bus; stamp = w.segment.stamp; stopped = w.segment.stopped };
      ends = w.segment.ends.items;
      events = w.segment.events.items;
    }

-- the same of all workers
abbrev pub all_seen : {End : Type 0} → List (Worker End) → List (WorkerView End)
all_seen {End} workers = map (λ (w : Worker End). seen w) workers

-- a worker may do a turn
pub record IsReady {End : Type 0} (w : WorkerView End) : Type 0 where
  pub going : w.segment.stopped ≡ false
  pub one_a_port : length w.ends ≡ length w.segment.bus.ports
  pub few_ports : length w.segment.bus.ports ≤ most_ports
  pub few_masters : length w.segment.bus.masters ≤ most_agents
  pub counts : ArrivedUpTo (length w.events) w.segment.bus

-- so may all
pub record AreReady {End : Type 0} (workers : List (WorkerView End)) : Type 0 where
  pub each : (k : ℕ) (w : WorkerView End) → slice_get workers k ≡ Some w → IsReady w

-- a worker did its turn of the phase, and made an event if it was busy
pub record Worked {End : Type 0} (had sent got : End → List Item) (kept : End → ℕ) (paired : End → End → Type 0) (board : Board) (phase : ℕ) (old new : WorkerView End) (busy : Bool) : Type 0 where
  pub count : ℕ
  pub turned : Turned had sent got kept paired board (begun phase old) new count
  pub idle : busy ≡ false → count ≡ 0
  pub grows : busy ≡ true → length old.events < length new.events
  pub counts : new.segment.stopped ≡ false → ArrivedUpTo (length new.events) new.segment.bus

-- all did
pub record AllWorked {End : Type 0} (had sent got : End → List Item) (kept : End → ℕ) (paired : End → End → Type 0) (board : Board) (phase : ℕ) (old new : List (WorkerView End)) (busy : Bool) : Type 0 where
  pub turned : AllTurned had sent got kept paired board phase old new busy
  pub counts : (k : ℕ) (v : WorkerView End) → slice_get new k ≡ Some v → v.segment.stopped ≡ false → ArrivedUpTo (length v.events) v.segment.bus

-- the buses that are marked idle: whoever presents something on one of them gets a Retry
pub record AreMarkedIdle {End : Type 0} (board : Board) (workers : List (WorkerView End)) (idle : List Bool) : Type 0 where
  pub many : length idle ≡ length workers
  pub retried : (k : ℕ) (w : WorkerView End) → slice_get workers k ≡ Some w → slice_get idle k ≡ Some true → GivesOnlyRetries board w.segment.bus
