pub mod Bridge
pub mod Room
pub mod Faces
pub mod Running
