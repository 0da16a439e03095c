pub mod Notes
pub mod Lines
pub mod Found
pub mod Stands
pub mod Search
