pub mod AllowedLemmas
pub mod DigitLemmas
pub mod CutLemmas
pub mod NextLemmas
pub mod TokenLemmas
pub mod WordLemmas
