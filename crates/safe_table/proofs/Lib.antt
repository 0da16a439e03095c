pub mod BoundLemmas
pub mod RiseLemmas
pub mod TellLemmas
pub mod CloseLemmas
