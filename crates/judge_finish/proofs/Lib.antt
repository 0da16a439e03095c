pub mod GoingLemmas
pub mod StayLemmas
