pub mod ToldLemmas
pub mod SaidLemmas
pub mod BusLemmas
pub mod LineLemmas
