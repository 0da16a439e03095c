pub mod WayLemmas
pub mod Laws
