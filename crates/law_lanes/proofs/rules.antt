pub mod QuietLemmas
pub mod PartLemmas
pub mod WayLemmas
pub mod Laws
