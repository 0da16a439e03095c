-- The posted memory writes that a bridge holds for its other bus: PCI Local Bus Specification 2.2,
-- section 3.2.5 (from memory; posting) and appendix E (they leave in the order in which they came).
use Rattle.std.specs.Prelude.{ℕ, ◌≤◌, Option, None, Some, List, [], ◌∷◌, length}
use Rattle.pci_command.specs.declared.op_id.OpId.{OpId}
use Rattle.lane_items.specs.declared.posts.posted_table.Post.{Post}

-- the posted writes that stand, the oldest first, and how many may stand at once
pub record Posted : Type 0 where
  pub depth : ℕ
  pub posts : List Post

-- a depth is from 1 to 8, and no more posted writes stand than it allows
pub record IsWithinDepth (table : Posted) : Type 0 where
  pub at_least_one : 1 ≤ table.depth
  pub at_most_eight : table.depth ≤ 8
  pub within : length table.posts ≤ table.depth

-- operation and arrival of the posted write that came first
abbrev pub first_of : List Post → Option (OpId × ℕ)
first_of [] = None
first_of (post ∷ later) = Some (post.op, post.arrival)
