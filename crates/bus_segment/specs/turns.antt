pub mod Works
pub mod Again
