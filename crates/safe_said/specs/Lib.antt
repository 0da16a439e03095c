pub mod Landing
pub mod AllSaid
pub mod Members
