pub mod KindLemmas
pub mod BurstLemmas
