pub mod SafeLemmas
pub mod RelayLemmas
pub mod FlagLemmas
pub mod FoundLemmas
