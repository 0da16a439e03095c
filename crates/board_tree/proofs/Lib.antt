pub mod GreatestLemmas
pub mod DecodableLemmas
pub mod BoundLemmas
pub mod ValidLemmas
pub mod ChainLemmas
pub mod WalkLemmas
