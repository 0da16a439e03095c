-- Tables that have room for what one more event brings.
use Rattle.std.specs.Prelude.{ℕ, ◌+◌, ◌^◌, ◌<◌, ◌≤◌, length}
use Rattle.board_model.specs.Limits.{most_posted, most_delayed, most_in_flight, most_standing}
use Rattle.history_model.specs.Lanes.{LaneState, Both}

-- so many more items, slots and posted writes, and one more arrival to count
pub record HasRoom (more : ℕ) (lane : LaneState) : Type 0 where
  pub asks : lane.asks + 1 < 2 ^ 64
  pub dones : lane.dones + 1 < 2 ^ 64
  pub flight : length lane.flight + more ≤ most_in_flight + 2
  pub standing : length lane.standing + more ≤ most_standing + 2
  pub held : length lane.held + more ≤ most_delayed + 2
  pub owed : lane.owed + more ≤ most_posted + 2

-- the same of both lanes of a bridge
abbrev pub HaveRoom : ℕ → Both → Type 0
HaveRoom more x = HasRoom more x.here × HasRoom more x.back
