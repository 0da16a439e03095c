pub mod Faults
pub mod Port
pub mod MemoryPort
pub mod HeldPort
pub mod Reading
pub mod Writing
