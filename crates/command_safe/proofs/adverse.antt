pub mod ServedLemmas
pub mod WrittenLemmas
pub mod AnswerLemmas
