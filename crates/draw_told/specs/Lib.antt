pub mod Told
pub mod Brackets
pub mod Kept
pub mod Closes
pub mod Ahead
