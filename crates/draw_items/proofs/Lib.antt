pub mod TouchedLemmas
pub mod WaitLemmas
pub mod TryLemmas
