pub mod TouchLemmas
pub mod LandingLemmas
pub mod EndLemmas
pub mod KeyLemmas
pub mod BracketLemmas
pub mod ToldLemmas
