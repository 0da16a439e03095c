-- What the laws of room state, and what other crates rest on besides.

-- a bus keeps its side of each of its bridges
pub use Rattle.law_local.proofs.room.SideLemmas.{run_keeps}
-- of two sides of a bridge at most so many items are left on each lane
pub use Rattle.law_local.proofs.room.RoomLemmas.{sides_fit, both_fit, to_limits, of_bridge}
-- what was not got of what came in order is as long as what is left
pub use Rattle.law_local.proofs.room.RoomLemmas.{what_is_left}
-- a bus that puts one more item on a lane finds fewer than 32 left there
pub use Rattle.law_local.proofs.room.FullLemmas.{not_full}
-- two ends may be settled, by what their own two buses did
pub use Rattle.law_local.proofs.room.SettleLemmas.{may_settle, fewer_left, settled_in_order}
