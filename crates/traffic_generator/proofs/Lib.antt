pub mod LoopLemmas
pub mod CostLemmas
pub mod ValidLemmas
