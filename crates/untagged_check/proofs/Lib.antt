pub mod ListLemmas
pub mod FoundLemmas
pub mod VerdictLemmas
