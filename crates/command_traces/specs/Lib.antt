pub mod Runs
pub mod check
pub mod audit
pub mod report
pub mod untagged
pub mod waves
pub mod draw
pub mod fill
