pub mod Filling
pub mod Arriving
