pub mod TestLemmas
pub mod DrawLemmas
