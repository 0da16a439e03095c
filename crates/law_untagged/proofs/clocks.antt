pub mod NamedLemmas
pub mod ReadLemmas
pub mod ClockLemmas
pub mod ToldLemmas
