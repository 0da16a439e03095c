pub mod AboutLemmas
pub mod WordLemmas
pub mod FitLemmas
pub mod AnswerLemmas
pub mod ReadLemmas
pub mod OtherLemmas
pub mod GotLemmas
pub mod Laws
