pub mod Registers
pub mod Ranges
