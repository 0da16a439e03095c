pub mod Journeys
pub mod Touched
pub mod Tries
pub mod Waits
pub mod Kept
pub mod columns
