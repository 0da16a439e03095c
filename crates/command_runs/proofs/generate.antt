pub mod CountLemmas
pub mod ServedLemmas
