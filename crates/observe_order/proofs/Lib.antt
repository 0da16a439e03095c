pub mod JudgingLemmas
pub mod GoingLemmas
pub mod ActsLemmas
