pub mod Sides
pub mod Room
