pub mod AnswerLemmas
pub mod OperationLemmas
pub mod ShownLemmas
pub mod ServedLemmas
