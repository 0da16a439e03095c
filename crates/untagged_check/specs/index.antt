pub mod Pending
pub mod Entries
pub mod Kept
