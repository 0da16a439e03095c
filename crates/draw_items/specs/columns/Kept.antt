-- What the program keeps of the tracks that are used: a number for each lane.
use Rattle.std.specs.Prelude.{◌≡◌, ◌<◌, ℕ, ◌+◌, ◌*◌, max, List, length, if◌then◌else◌, slice_index}
use Rattle.std.proofs.Math.ListN.{set}
use Rattle.board_model.specs.declared.bridge.Lane.{Lane as BridgeLane}
use Rattle.draw_items.specs.declared.journey.Journey.{Journey}
use Rattle.draw_items.specs.Journeys.{has_stood}
use Rattle.draw_items.specs.columns.Sums.{plus}
use Rattle.draw_items.specs.columns.Places.{most}

-- the place of a lane: two for each bridge
abbrev pub slot_of : BridgeLane → ℕ
slot_of lane = if lane.up then 2 * lane.bus + 1 else 2 * lane.bus

-- after one item more
abbrev pub with_item : Journey → List ℕ → List ℕ
with_item item tracks =
    if has_stood item then set tracks (slot_of item.lane) (max (slice_index tracks (slot_of item.lane)) (plus item.track 1)) else tracks

-- the numbers are those that these items use
pub record IsMost (items : List Journey) (tracks : List ℕ) : Type 0 where
  pub all : length tracks ≡ 512
  pub each : (lane : BridgeLane) → lane.bus < 256 → slice_index tracks (slot_of lane) ≡ most items lane
