pub mod Addresses
pub mod Woven
