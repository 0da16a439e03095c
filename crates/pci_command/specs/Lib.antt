pub mod Command
pub mod Request
pub mod Same
