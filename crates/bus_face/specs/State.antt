-- What half a bridge keeps, on the bus of its face.
use Rattle.std.specs.Prelude.{ℕ}
use Rattle.lane_items.specs.posts.Posted.{Posted}
use Rattle.lane_items.specs.requests.Asks.{Asks}
use Rattle.lane_items.specs.requests.Slots.{Slots}
use Rattle.lane_items.specs.completions.Completions.{Completions}

-- what the half of a bridge on one of its buses keeps
pub record FaceState : Type 0 where
  -- the posted writes, delayed requests and completions that came to this bus, in three tables
  pub posts : Posted
  pub asks : Asks
  pub dones : Completions
  -- the slots of the delayed requests that were latched here
  pub slots : Slots
  -- how many posted writes may be owed, and are
  pub posted : ℕ
  pub owed : ℕ
  -- how many items arrived so far
  pub arrivals : ℕ
