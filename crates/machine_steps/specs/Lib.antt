pub mod Values
pub mod Whys
pub mod Verdicts
pub mod Endings
pub mod Counts
pub mod Words
