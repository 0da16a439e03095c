pub mod Lines
pub mod Now
pub mod Flights
pub mod Quiet
pub mod Course
