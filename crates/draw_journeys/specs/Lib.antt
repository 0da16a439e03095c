pub mod Journeys
pub mod Steps
pub mod Kept
