pub mod ArrivingLemmas
pub mod PlacedLemmas
