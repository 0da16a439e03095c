pub mod WrittenLemmas
pub mod MadeLemmas
