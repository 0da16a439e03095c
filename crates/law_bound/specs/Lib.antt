pub mod Begins
pub mod reach
pub mod stages
pub mod changes
pub mod posted
pub mod delayed
