pub mod DigitLemmas
pub mod WordLemmas
pub mod NumberLemmas
pub mod Laws
