pub mod OrderLemmas
pub mod TurnedLemmas
pub mod TieLemmas
pub mod OwnLemmas
