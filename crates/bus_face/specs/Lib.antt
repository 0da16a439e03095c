pub mod State
pub mod Held
pub mod Replies
pub mod Arrivals
pub mod Offers
pub mod Stands
pub mod OnLanes
