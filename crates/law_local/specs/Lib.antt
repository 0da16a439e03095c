pub mod Known
pub mod Woven
pub mod Stamps
pub mod Answered
pub mod Quiet
pub mod Stays
pub mod room
pub mod phases
