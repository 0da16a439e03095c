pub mod Sums
pub mod Order
pub mod Places
pub mod Kept
