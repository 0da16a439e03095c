pub mod Ops
pub mod Raisers
pub mod Clocks
pub mod Safe
pub mod Vain
pub mod largest
pub mod said
