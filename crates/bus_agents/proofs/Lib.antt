pub mod TurnLemmas
pub mod ThroughLemmas
