-- What the laws of local runs state, and what other crates rest on besides.

-- a valid board is fit for these laws
pub use Rattle.law_local.proofs.ApartLemmas.{IsFit, IsFit-valid}
-- events of all buses, each allowed by what its bus knows, are a run where no item arrives before it was sent
pub use Rattle.law_local.proofs.WovenLemmas.{woven_run}
-- local runs of all buses in the order of their stamps are such events
pub use Rattle.law_local.proofs.SortLemmas.{merged_woven}
-- what is presented, how it is answered, and which items may come, is decided by what the bus knows
pub use Rattle.law_local.proofs.TransferLemmas.{wants_local}
pub use Rattle.law_local.proofs.AnswerLemmas.{answer_local}
pub use Rattle.law_local.proofs.EndLemmas.{lawful_known}
-- where no bus has anything to do, the run is complete
pub use Rattle.law_local.proofs.EndLemmas.{quiet_complete}
-- an event on one bus leaves every other bus as it was
pub use Rattle.law_local.proofs.StayLemmas.{other_stays}
-- facts on the definitions of this crate

-- a move of a bridge, on a lane, on the lane back and on any other; and all lanes by these three
pub use Rattle.law_local.proofs.JointLemmas.{moved_here, moved_back, moved_other, by_lanes}
-- a lane back begins where the lane ends, and ends where it begins
pub use Rattle.law_local.proofs.JointLemmas.{start_back, end_back}
-- a lane of a bridge, one that answers, and one on which something arrives, ends on another bus than it begins on
pub use Rattle.law_local.proofs.ApartLemmas.{IsApart, lane_apart, place_apart}
-- after an event of a bus only more is in flight on the lanes that begin there
pub use Rattle.law_local.proofs.EventLemmas.{Grows}
pub use Rattle.law_local.proofs.GrowLemmas.{event_grows}
-- on a lane that ends on the bus, what arrived and what is in flight are all that comes
pub use Rattle.law_local.proofs.GrowLemmas.{all_counted}
-- the events of a bus without their stamps are the bus's part of all events
pub use Rattle.law_local.proofs.SortLemmas.{stamped_events}
