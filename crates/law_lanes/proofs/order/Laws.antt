-- What the laws of order state, and what other crates rest on besides.

-- the posted writes that a lane accepted are those that left it, that stand and that fly, in their order
pub use Rattle.law_lanes.proofs.order.OrderRunLemmas.{InOrder-run}
-- what was sent on a lane is what came, and then what is in flight
pub use Rattle.law_lanes.proofs.order.SentLemmas.{sent_received, sent_counted}
-- what is owed and what is held, counted
pub use Rattle.law_lanes.proofs.order.CreditCounts.{owed_counted}
pub use Rattle.law_lanes.proofs.order.SlotCounts.{held_counted}
-- each posted write is its master's
pub use Rattle.law_lanes.proofs.order.MasterLemmas.{Owned-run, standing_owned, flying_owned}
-- a master ends each operation at most once
pub use Rattle.law_lanes.proofs.order.OnceLemmas.{ends_once, turn_not_ended}
-- a posted write landed once, was lost once, or is one item on one lane
pub use Rattle.law_lanes.proofs.order.BalanceLemmas.{OnePost-run}
-- each posted write is on its way
pub use Rattle.law_lanes.proofs.order.OnWayLemmas.{OnWay-run, OnWay-stands, OnWay-flies}
pub use Rattle.law_lanes.proofs.order.DirectLemmas.{direct_way}
-- the rest of a burst waits where a target took its part
pub use Rattle.law_lanes.proofs.order.PartsLemmas.{PartsAt-run}
-- on a well-formed board one claims all of a write, and aborts all of it or nothing
pub use Rattle.law_lanes.proofs.order.BurstLemmas.{OneClaimant-formed, AbortWhole-formed}
-- facts on the definitions of this crate

-- the item of a write in memory, and what its request says
pub use Rattle.law_lanes.proofs.order.PostLemmas.{post_of, op_is_posted}
-- a posted write that a lane presents is the oldest that stands there
pub use Rattle.law_lanes.proofs.order.PostLemmas.{posts-less_first}
-- where a target claims a write, its way is at its end, and it claims the whole
pub use Rattle.law_lanes.proofs.order.DirectLemmas.{empty_way, whole_target}
-- a write goes through in parts, and what is left of it is claimed as the whole
pub use Rattle.law_lanes.proofs.order.LandLemmas.{Short, Short-run, claims_from, rest_claimed, write_lands}
-- a target that claims a write takes it, in a part or whole, and a part begins at a word of its own
pub use Rattle.law_lanes.proofs.order.WordLemmas.{OnlyTakes, takes_only, part_word}
-- sums over the lanes of a board
pub use Rattle.law_lanes.proofs.order.LaneSums.{over-moved, over-one, over-plus}
