-- A phase ends between two segments: the two ends of one bridge are settled.
use Rattle.std.specs.Prelude.{◌≡◌, ℕ, ◌≤◌, List, length, Some, slice_get}
use Rattle.lane_items.specs.declared.item.Item.{Item}
use Rattle.lane_items.specs.Lane.{GotInOrder, left_count, Crosses, IsEmptied}
use Rattle.board_model.specs.Limits.{most_waiting}
use Rattle.bus_core.specs.Places.{OneChanged}

-- the ends at the two places are those of one bridge, and of each of its lanes at most 32 items are left, at least where
-- the items were got in the order of their sending
pub record MaySettle {End : Type 0} (had sent got : End → List Item) (kept : End → ℕ) (paired : End → End → Type 0) (here : List End) (place : ℕ) (there : List End) (other_place : ℕ) : Type 0 where
  pub pairs : (a b : End) → slice_get here place ≡ Some a → slice_get there other_place ≡ Some b → paired a b
  pub fits : (a b : End) → slice_get here place ≡ Some a → slice_get there other_place ≡ Some b
      → GotInOrder (had b) (got b) (sent a) (kept a) → GotInOrder (had a) (got a) (sent b) (kept b)
      → (left_count (had b) (got b) (sent a) ≤ most_waiting) × (left_count (had a) (got a) (sent b) ≤ most_waiting)

-- two ends are settled: what each sent, and the other did not get, is in the other's hand
pub record Settled {End : Type 0} (had sent got : End → List Item) (kept : End → ℕ) (paired : End → End → Type 0) (a b a_after b_after : End) : Type 0 where
  pub to_b : Crosses (had b) (got b) (sent a) (kept a) (had b_after)
  pub to_a : Crosses (had a) (got a) (sent b) (kept b) (had a_after)
  pub a_emptied : IsEmptied (sent a_after) (got a_after) (kept a_after)
  pub b_emptied : IsEmptied (sent b_after) (got b_after) (kept b_after)
  pub pairs : paired a_after b_after

-- so are the ends at the two places, and the others are as before
pub record SettlesAt {End : Type 0} (had sent got : End → List Item) (kept : End → ℕ) (paired : End → End → Type 0) (here : List End) (place : ℕ) (there : List End) (other_place : ℕ) (here_after there_after : List End) : Type 0 where
  pub a : End
  pub b : End
  pub a_after : End
  pub b_after : End
  pub here_one : OneChanged place here here_after a a_after
  pub there_one : OneChanged other_place there there_after b b_after
  pub here_many : length here_after ≡ length here
  pub there_many : length there_after ≡ length there
  pub settled : Settled had sent got kept paired a b a_after b_after
