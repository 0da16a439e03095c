pub mod words
pub mod lines
pub mod Cuts
