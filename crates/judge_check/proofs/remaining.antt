pub mod ProgramLemmas
pub mod TotalLemmas
pub mod SameLemmas
