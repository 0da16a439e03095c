-- The end of a lane whose items cross at the end of a phase alone.
use Rattle.std.specs.Prelude.{List, ◌++◌}
use Rattle.lane_items.specs.declared.item.Item.{Item}

-- what was got in the phase, what is still in hand, and what was sent in the phase
pub record PlainState : Type 0 where
  pub got : List Item
  pub hand : List Item
  pub sent : List Item

-- what was in hand when the phase began: in a phase nothing comes into hand, and it is got from its front
abbrev pub had_in : PlainState → List Item
had_in end = end.got ++ end.hand
