-- Phases of all segments in which what is sent may come across before the phase ends: each worker does turns of its own, as
-- many as it will, and then all ends of lanes are settled. That the lanes brought their items in order is learnt there.
use Rattle.std.specs.Prelude.{◌≡◌, ℕ, ◌+◌, ◌≤◌, Bool, List, Some, slice_get}
use Rattle.std.specs.List.{AllByRecursion}
use Rattle.board_model.specs.declared.bridge.Lane.{Lane as BridgeLane}
use Rattle.board_model.specs.declared.board.Board.{Board}
use Rattle.history_model.specs.declared.event.Stamped.{Stamped}
use Rattle.lane_items.specs.declared.item.Item.{Item}
use Rattle.bus_core.specs.Calls.{stamp_of}
use Rattle.bus_segment.specs.Stands.{WorkerView}
use Rattle.engine_phases.specs.Workers.{AreBetween}
use Rattle.engine_phases.specs.Phase.{AreApart, AllTurned, count_all}

-- After so many phases, each of which made an event: no stamp is above the number of phases and of events so far.
pub record AfterRounds {End : Type 0} (had sent got : End → List Item) (kept : End → ℕ) (paired : End → End → Type 0) (board : Board) (workers : List (WorkerView End)) (phases : ℕ) : Type 0 where
  pub received : BridgeLane → List Item
  pub hand : BridgeLane → List Item
  pub part : ℕ → List Stamped
  pub between : AreBetween had sent got kept paired board workers received hand part
  pub apart : AreApart board workers
  pub stamps : (k : ℕ) (w : WorkerView End) → slice_get workers k ≡ Some w → w.segment.stamp ≤ phases + count_all workers
  pub hand_stamps : (lane : BridgeLane) → AllByRecursion (λ (item : Item). stamp_of item ≤ phases + count_all workers) (hand lane)
  pub many : phases ≤ count_all workers

-- each worker did turns of its own, with stamps from a number on that is at most one above all stamps before; if the phase
-- was not busy, none made an event
pub record AllRan {End : Type 0} (had sent got : End → List Item) (kept : End → ℕ) (paired : End → End → Type 0) (board : Board) (phases : ℕ) (old new : List (WorkerView End)) (busy : Bool) : Type 0 where
  pub from : ℕ
  pub low : from ≤ phases + count_all old + 1
  pub turned : AllTurned had sent got kept paired board from old new busy
