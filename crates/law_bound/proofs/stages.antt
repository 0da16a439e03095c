pub mod StageLemmas
pub mod CountLemmas
pub mod OwnLemmas
pub mod SameLemmas
pub mod Laws
