pub mod Strips
pub mod Kept
