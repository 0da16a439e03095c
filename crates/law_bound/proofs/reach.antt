pub mod ReachLemmas
pub mod OwnLemmas
pub mod PlaceLemmas
pub mod Laws
