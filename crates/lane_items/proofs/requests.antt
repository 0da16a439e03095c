pub mod AskLemmas
pub mod LowestFreeLemmas
pub mod SlotLemmas
