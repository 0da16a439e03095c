-- What the law of moves states, and what other crates rest on besides.

-- the moves of an event leave on each lane what is there after it
pub use Rattle.law_lanes.proofs.moves.MoveLemmas.{moves_after}
-- moves, one after another
pub use Rattle.law_lanes.proofs.moves.MoveLemmas.{put_append, put_same}
-- what an event finds is what is on the lanes that it names
pub use Rattle.law_lanes.proofs.moves.MoveLemmas.{moved_same}
-- what a claim leaves of the requests that stand, and of what ends
pub use Rattle.law_lanes.proofs.moves.MoveLemmas.{enters_here, enters_back, item_same, item_then}
