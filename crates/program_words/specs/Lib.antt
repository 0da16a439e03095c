pub mod Shapes
pub mod help
