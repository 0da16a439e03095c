pub mod Words
pub mod Events
pub mod Lines
pub mod Names
pub mod Scanned
