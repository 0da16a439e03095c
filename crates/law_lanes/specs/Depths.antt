-- How much is on a lane at most: PCI-to-PCI Bridge Architecture Specification 1.1, chapter 5 (from memory; buffer
-- management).
use Rattle.std.specs.Prelude.{ℕ, Bool, ◌+◌, ◌*◌, ◌<◌, ◌≤◌, ◌==◌, length}
use Rattle.std.specs.List.{AllByRecursion, IsDistinct}
use Rattle.board_model.specs.Limits.{most_posted, most_delayed}
use Rattle.board_model.specs.declared.bridge.Bridge.{Bridge}
use Rattle.board_model.specs.declared.board.Board.{Board}
use Rattle.history_model.specs.Lanes.{LaneState}

-- a lane where as many posted writes and as many delayed requests are kept at most
pub record Within (posted delayed : ℕ) (lane : LaneState) : Type 0 where
  -- it owes at most so many posted writes
  pub owed : lane.owed ≤ posted
  -- at most so many slots are held, and their numbers are below that
  pub held : length lane.held ≤ delayed
  pub numbers : AllByRecursion (λ slot. slot.number < delayed) lane.held
  -- posted writes, credits, delayed requests, and completions with the words of dropped requests
  pub flight : length lane.flight ≤ 2 * posted + 2 * delayed
  -- posted writes, delayed requests and completions
  pub standing : length lane.standing ≤ posted + 2 * delayed

-- two bridges to one bus
abbrev pub same_number : Bridge → Bridge → Bool
same_number a b = a.bus == b.bus

-- the bridges of a board have different numbers
abbrev pub DifferentNumbers : Board → Type 0
DifferentNumbers board = IsDistinct same_number board.bridges

-- each depth is one that may be written
abbrev pub DepthsInLimits : Board → Type 0
DepthsInLimits board = AllByRecursion (λ (bridge : Bridge). (bridge.posted ≤ most_posted) × (bridge.delayed ≤ most_delayed)) board.bridges
