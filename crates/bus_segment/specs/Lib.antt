pub mod Segment
pub mod Ends
pub mod Turn
pub mod Steps
pub mod Stands
pub mod Settle
pub mod turns
