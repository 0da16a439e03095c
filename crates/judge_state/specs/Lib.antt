pub mod State
pub mod Found
pub mod Stands
pub mod Rooms
pub mod Words
pub mod Answer
pub mod First
pub mod Refused
