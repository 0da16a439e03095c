pub mod Refusals
pub mod Boards
pub mod Devices
pub mod Protocols
pub mod Traces
