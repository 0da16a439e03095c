pub mod TurnLemmas
pub mod BeginLemmas
pub mod RoundLemmas
pub mod FirstLemmas
