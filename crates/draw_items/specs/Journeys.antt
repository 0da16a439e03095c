-- Where a journey is, behind the first events and behind all. Events are numbered from 1 on; number 0 says that an item
-- did not come, or did not leave.
use Rattle.std.specs.Prelude.{ℕ, Bool, true, false, not, ◌&&◌, ◌==◌, nat_lt, nat_le}
use Rattle.board_model.specs.declared.bridge.Lane.{Lane as BridgeLane}
use Rattle.history_model.specs.declared.item.Carried.{Carried}
use Rattle.history_model.specs.declared.item.Carried.TheVariants.{Post, Ask, Done, Room, Gone}
use Rattle.history_model.specs.World.{same_lane}
use Rattle.draw_items.specs.declared.journey.Journey.{Journey}

-- a post, a request and a completion stand after a plain arrival
abbrev pub can_stand : Carried → Bool
can_stand (Post op) = true
can_stand (Ask op slot) = true
can_stand (Done op slot outcome) = true
can_stand Room = false
can_stand (Gone slot) = false

-- it stood where its lane ends
abbrev pub has_stood : Journey → Bool
has_stood j = nat_lt 0 j.came && (not j.marked && can_stand j.carried)

-- Behind the first n events.

-- it had come
abbrev pub has_come : ℕ → Journey → Bool
has_come n j = nat_lt 0 j.came && nat_le j.came n

-- it had left
abbrev pub has_left : ℕ → Journey → Bool
has_left n j = nat_lt 0 j.left && nat_le j.left n

-- it was in flight on the lane
abbrev pub flies_at : ℕ → BridgeLane → Journey → Bool
flies_at n lane j = same_lane j.lane lane && (nat_le j.sent n && not (has_come n j))

-- it stood where the lane ends
abbrev pub stands_at : ℕ → BridgeLane → Journey → Bool
stands_at n lane j = same_lane j.lane lane && (has_come n j && (not j.marked && (can_stand j.carried && not (has_left n j))))

-- Behind all.

-- in flight on the lane
abbrev pub flies : BridgeLane → Journey → Bool
flies lane j = same_lane j.lane lane && j.came == 0

-- standing where the lane ends
abbrev pub stands : BridgeLane → Journey → Bool
stands lane j = same_lane j.lane lane && (nat_lt 0 j.came && (not j.marked && (can_stand j.carried && j.left == 0)))

-- standing there, and the item passes
abbrev pub is_there : BridgeLane → (Carried → Bool) → Journey → Bool
is_there lane test j = stands lane j && test j.carried
