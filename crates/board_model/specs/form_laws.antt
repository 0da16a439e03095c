pub mod Trees
pub mod WayEnds
pub mod Turns
pub mod Claimants
