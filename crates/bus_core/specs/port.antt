pub mod Port
pub mod Calls
