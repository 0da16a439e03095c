pub mod Loop
pub mod Settling
pub mod Steady
pub mod First
pub mod threads
pub mod whole
pub mod rings
