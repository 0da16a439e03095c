pub mod Rows
pub mod Tables
pub mod Clocks
pub mod Tracks
