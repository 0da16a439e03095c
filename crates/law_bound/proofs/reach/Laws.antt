-- What the law of reach states, and what other crates rest on besides.

-- each held slot is on the way of its operation, and every lane before it was passed
pub use Rattle.law_bound.proofs.reach.ReachLemmas.{Reaches-run}
-- facts on the definitions of this crate

-- a request that stands is the first of its number
pub use Rattle.law_bound.proofs.reach.ReachLemmas.{ask_stands_first}
-- who presents an operation is traced to its master, by slots held on its way
pub use Rattle.law_bound.proofs.reach.ReachLemmas.{Known, placed, trace}
-- the slot of an operation, what it has, and whose turn it is
pub use Rattle.law_bound.proofs.reach.OwnLemmas.{Own, own_by, own_of, by_number, own_number, Stands, stands_of, no_slots, none_of, freed_none}
-- a delayed operation that a lane presents stands there as its request, and passed the lane
pub use Rattle.law_bound.proofs.reach.OwnLemmas.{one_op, asked_at, asked_for, passed_at}
-- a delayed request is answered by the lane that claims it, and no part of it goes through
pub use Rattle.law_bound.proofs.reach.PlaceLemmas.{not_parted, nothing_parted, claims_rest, answered, lane_there}
