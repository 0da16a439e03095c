-- What the laws of changes state, and what other crates rest on besides.

-- a delayed request that no lane claims ends where it is answered
pub use Rattle.law_bound.proofs.changes.ActLemmas.{ends_there}
-- what is left of a program falls as its operation ends
pub use Rattle.law_bound.proofs.changes.ProgramLemmas.{turn_master, follows_left}
-- facts on the definitions of this crate

-- an operation that is there stands in the program of its master
pub use Rattle.law_bound.proofs.changes.ProgramLemmas.{entry_of}
-- a move changes no other lane, and carries no other item further away
pub use Rattle.law_bound.proofs.changes.MoveLemmas.{Still, StillBoth, still_self, still_both, moved_still, moved_here, moved_there, grown_still}
-- each move by itself
pub use Rattle.law_bound.proofs.changes.MoveLemmas.{latch_still, taken_still, ends_still, stands_still, frees_still, drops_still}
-- a sum over a way changes by what one lane changes
pub use Rattle.law_bound.proofs.changes.MoveLemmas.{sum_up, sum_down}
-- what is left falls: by the stages of an operation, or as it ends at its master
pub use Rattle.law_bound.proofs.changes.ChangeLemmas.{lowers, own_stays, own_ends}
