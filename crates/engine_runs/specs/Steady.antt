-- Between two phases of the loop.
use Rattle.std.specs.Prelude.{◌≡◌, ℕ, List, Some, length, slice_get}
use Rattle.board_model.specs.declared.board.Board.{Board}
use Rattle.lane_items.specs.declared.item.Item.{Item}
use Rattle.bus_core.specs.Bus.{shape_of}
use Rattle.bus_segment.specs.Stands.{WorkerView}
use Rattle.engine_phases.specs.Phase.{AfterPhases}
use Rattle.engine_runs.specs.declared.settling.Above.{Above}
use Rattle.engine_runs.specs.Loop.{AreReady}
use Rattle.engine_runs.specs.Settling.{AreAbove, HangBelow}

-- after so many phases each worker may do its next turn, and where the lanes of bridges end is known
pub record IsSteady {End : Type 0} (had sent got : End → List Item) (kept : End → ℕ) (paired : End → End → Type 0) (board : Board) (workers : List (WorkerView End)) (above : List Above) (phases : ℕ) : Type 0 where
  pub after : AfterPhases had sent got kept paired board workers phases
  pub ready : AreReady workers
  pub hang : HangBelow workers
  pub linked : AreAbove workers above

-- workers of the same buses, with as many ends of lanes
pub record SameLay {End : Type 0} (old new : List (WorkerView End)) : Type 0 where
  pub many : length new ≡ length old
  pub each : (k : ℕ) (w : WorkerView End) → slice_get old k ≡ Some w → (v : WorkerView End) × (slice_get new k ≡ Some v) × (shape_of v.segment.bus ≡ shape_of w.segment.bus) × (length v.ends ≡ length w.ends)
