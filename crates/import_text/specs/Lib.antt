pub mod Digits
pub mod Slots
pub mod Rows
pub mod Regions
pub mod Capabilities
pub mod Entries
pub mod Functions
