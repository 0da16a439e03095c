pub mod Verdicts
pub mod remaining
