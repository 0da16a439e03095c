-- The events of posted writes and of their credits, and the stalls: PCI Local Bus Specification 2.2, section 3.2.5 (from memory).
use Rattle.std.specs.Prelude.{◌≡◌, Bool, true, false, List, [], ◌∷◌, ◌||◌}
use Rattle.board_model.specs.declared.board.Board.{Board}
use Rattle.history_model.specs.declared.event.Event.{Event}
use Rattle.history_model.specs.declared.event.Event.TheVariants.{Act, Arrive}
use Rattle.history_model.specs.declared.item.Carried.{Carried}
use Rattle.history_model.specs.declared.item.Carried.TheVariants.{Post, Ask, Done, Room, Gone}
use Rattle.history_model.specs.World.{world_of}
use Rattle.law_lanes.specs.order.Order.{is_posted_op}
use Rattle.history_model.specs.Steps.{is_stall}

-- a posted write or a credit
abbrev pub is_post_or_room : Carried → Bool
is_post_or_room (Post op) = true
is_post_or_room (Ask op slot) = false
is_post_or_room (Done op slot outcome) = false
is_post_or_room Room = true
is_post_or_room (Gone slot) = false

-- the oldest of the items in flight is one
abbrev pub first_is_post_or_room : List Carried → Bool
first_is_post_or_room [] = false
first_is_post_or_room (item ∷ rest) = is_post_or_room item

-- a stall of any operation, an act of a write in memory, or the arrival of a posted write or of a credit
abbrev pub IsPostedEvent : Board → List Event → Event → Type 0
IsPostedEvent board h (Act on by o step place) = (is_stall step || is_posted_op board o) ≡ true
IsPostedEvent board h (Arrive lane mark) = first_is_post_or_room (world_of board h lane).flight ≡ true
