pub mod BitLemmas
pub mod RegisterLemmas
