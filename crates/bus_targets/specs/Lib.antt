pub mod Words
pub mod Reads
pub mod State
pub mod Stands
