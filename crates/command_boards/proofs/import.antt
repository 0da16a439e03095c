pub mod ServedLemmas
pub mod AnswerLemmas
