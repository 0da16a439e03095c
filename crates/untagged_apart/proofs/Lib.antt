pub mod LookLemmas
pub mod KeptLemmas
pub mod GoneLemmas
pub mod FoundLemmas
