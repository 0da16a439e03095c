pub mod Bus
pub mod Places
pub mod Calls
pub mod Parts
pub mod Serves
pub mod port
