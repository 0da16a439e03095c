pub mod PlaceLemmas
pub mod WordLemmas
pub mod ReadLemmas
pub mod ClaimLemmas
pub mod AnswerLemmas
pub mod EventLemmas
pub mod FirstLemmas
