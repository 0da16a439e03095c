pub mod MoveLemmas
pub mod ActLemmas
pub mod ProgramLemmas
pub mod ChangeLemmas
pub mod Laws
