pub mod Now
pub mod Running
