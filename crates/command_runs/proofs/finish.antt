pub mod ServedLemmas
pub mod WrittenLemmas
