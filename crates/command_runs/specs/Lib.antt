pub mod run
pub mod finish
pub mod devices
pub mod generate
