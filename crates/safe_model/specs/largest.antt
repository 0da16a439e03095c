pub mod Tests
pub mod Largest
