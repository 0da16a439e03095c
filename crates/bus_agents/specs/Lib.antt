pub mod Turns
pub mod Through
pub mod marks
pub mod arbiter
