pub mod TallyLemmas
pub mod LineLemmas
pub mod OperationLemmas
pub mod AddingLemmas
pub mod RangeLemmas
pub mod OwnLemmas
