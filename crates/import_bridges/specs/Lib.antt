pub mod Functions
pub mod Decoding
