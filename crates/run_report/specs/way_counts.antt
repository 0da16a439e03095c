pub mod Plain
pub mod WayCounts
pub mod Weighed
