pub mod LineLemmas
pub mod LaneLemmas
pub mod ResultLemmas
pub mod PlaceLemmas
pub mod ActLemmas
pub mod ArrivalLemmas
pub mod EndLemmas
pub mod EventLemmas
