-- How all lanes are settled: bridge by bridge, from the worker of its secondary bus.
use Rattle.std.specs.Prelude.{◌≡◌, ◌≢◌, ℕ, ◌+◌, ◌<◌, List, length, Some, slice_get}
use Rattle.board_model.specs.declared.bridge.Lane.{Lane as BridgeLane}
use Rattle.board_model.specs.declared.board.Board.{Board}
use Rattle.board_model.specs.Ways.{lane_back}
use Rattle.lane_items.specs.declared.item.Item.{Item}
use Rattle.bus_core.specs.Bus.{shape_of}
use Rattle.bus_segment.specs.Settle.{MaySettle, SettlesAt}
use Rattle.bus_segment.specs.Stands.{WorkerView}
use Rattle.engine_segments.specs.First.{down_to, up_from}
use Rattle.engine_phases.specs.Phase.{AreApart, OnlyEnds, LaneSettled}
use Rattle.engine_phases.specs.Workers.{EndAt, AreWorkers}
use Rattle.engine_runs.specs.declared.settling.Above.{Above}

-- the bridge to the bus of the worker at this place hangs below an earlier worker, at this port; its own port is the first
pub record IsAbove {End : Type 0} (workers : List (WorkerView End)) (place : ℕ) (above : Above) : Type 0 where
  pub earlier : above.worker < place
  pub upper : WorkerView End
  pub lower : WorkerView End
  pub upper_is : slice_get workers above.worker ≡ Some upper
  pub lower_is : slice_get workers place ≡ Some lower
  pub up : slice_get (shape_of upper.segment.bus).lanes above.port ≡ Some (up_from lower.segment.bus.bus)
  pub down : slice_get (shape_of lower.segment.bus).lanes 0 ≡ Some (down_to lower.segment.bus.bus)

-- so it is of all but the first
pub record AreAbove {End : Type 0} (workers : List (WorkerView End)) (above : List Above) : Type 0 where
  pub each : (k : ℕ) (up : Above) → slice_get above k ≡ Some up → IsAbove workers (k + 1) up
  pub many : length workers ≡ length above + 1

-- the lanes at their ports are those of bridges to the buses of all but the first
pub record HangBelow {End : Type 0} (workers : List (WorkerView End)) : Type 0 where
  pub below : (k : ℕ) (w : WorkerView End) (n : ℕ) (lane : BridgeLane) → slice_get workers k ≡ Some w → slice_get (shape_of w.segment.bus).lanes n ≡ Some lane
      → (m : ℕ) × (v : WorkerView End) × (slice_get workers (m + 1) ≡ Some v) × (lane.bus ≡ v.segment.bus.bus)

-- and the workers are those of a board
pub record AreLaidOut {End : Type 0} (workers : List (WorkerView End)) : Type 0 where
  pub board : Board
  pub are : AreWorkers board workers
  pub apart : AreApart board workers
  pub hang : HangBelow workers

-- the bridge to the bus of the worker at this place may be settled
pub record CanMeet {End : Type 0} (had sent got : End → List Item) (kept : End → ℕ) (paired : End → End → Type 0) (workers : List (WorkerView End)) (above : Above) (place : ℕ) : Type 0 where
  pub earlier : above.worker < place
  pub upper : WorkerView End
  pub lower : WorkerView End
  pub upper_is : slice_get workers above.worker ≡ Some upper
  pub lower_is : slice_get workers place ≡ Some lower
  pub upper_port : above.port < length upper.ends
  pub lower_port : 0 < length lower.ends
  pub may : MaySettle had sent got kept paired upper.ends above.port lower.ends 0

-- one bridge is settled: the worker above and the worker below change at one port each, and the others stay
pub record SettlesOne {End : Type 0} (had sent got : End → List Item) (kept : End → ℕ) (paired : End → End → Type 0) (old : List (WorkerView End)) (above : Above) (place : ℕ) (new : List (WorkerView End)) : Type 0 where
  pub many : length new ≡ length old
  pub others : (k : ℕ) → k ≢ above.worker → k ≢ place → slice_get new k ≡ slice_get old k
  pub upper : WorkerView End
  pub upper_after : WorkerView End
  pub lower : WorkerView End
  pub lower_after : WorkerView End
  pub upper_was : slice_get old above.worker ≡ Some upper
  pub upper_is : slice_get new above.worker ≡ Some upper_after
  pub lower_was : slice_get old place ≡ Some lower
  pub lower_is : slice_get new place ≡ Some lower_after
  pub upper_only : OnlyEnds upper upper_after
  pub lower_only : OnlyEnds lower lower_after
  pub settles : SettlesAt had sent got kept paired upper.ends above.port lower.ends 0 upper_after.ends lower_after.ends

-- The bridges to the first workers are settled.

-- so are both lanes of the bridge to this bus
pub record LanesSettled {End : Type 0} (had sent got : End → List Item) (kept : End → ℕ) (paired : End → End → Type 0) (old new : List (WorkerView End)) (bus : ℕ) : Type 0 where
  pub lanes : (k m : ℕ) (w v w_after v_after : WorkerView End) (lane : BridgeLane) (far near far_after near_after : End)
      → slice_get old k ≡ Some w → slice_get old m ≡ Some v → slice_get new k ≡ Some w_after → slice_get new m ≡ Some v_after
      → EndAt w lane far → EndAt v (lane_back lane) near → EndAt w_after lane far_after → EndAt v_after (lane_back lane) near_after
      → lane.bus ≡ bus → LaneSettled had sent got kept paired far near far_after near_after

-- those to so many workers behind the first, and no others
pub record SettledSoFar {End : Type 0} (had sent got : End → List Item) (kept : End → ℕ) (paired : End → End → Type 0) (many : ℕ) (old new : List (WorkerView End)) : Type 0 where
  pub same_many : length new ≡ length old
  pub each : (k : ℕ) (w : WorkerView End) → slice_get old k ≡ Some w → (v : WorkerView End) × (slice_get new k ≡ Some v) × OnlyEnds w v
  pub done : (j : ℕ) (u : WorkerView End) → j < many → slice_get old (j + 1) ≡ Some u → LanesSettled had sent got kept paired old new u.segment.bus.bus
  pub rest : (k : ℕ) (w w_after : WorkerView End) (lane : BridgeLane) (end end_after : End) → slice_get old k ≡ Some w → slice_get new k ≡ Some w_after → EndAt w lane end → EndAt w_after lane end_after
      → ((j : ℕ) (u : WorkerView End) → j < many → slice_get old (j + 1) ≡ Some u → lane.bus ≢ u.segment.bus.bus) → end_after ≡ end
