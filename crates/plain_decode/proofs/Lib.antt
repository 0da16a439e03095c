pub mod FoundLemmas
pub mod ReadBackLemmas
pub mod TextLemmas
