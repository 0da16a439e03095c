pub mod Pasts
pub mod Taken
pub mod Engine
