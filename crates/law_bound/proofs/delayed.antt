pub mod LaneEndLemmas
pub mod TakenLemmas
pub mod LatchLemmas
pub mod MasterEndLemmas
pub mod ActEventLemmas
pub mod ArriveLemmas
pub mod ArriveEventLemmas
pub mod Laws
