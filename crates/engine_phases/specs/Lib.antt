pub mod Workers
pub mod Phase
pub mod ring
pub mod merging
