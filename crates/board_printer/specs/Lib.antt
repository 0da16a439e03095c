pub mod Lines
pub mod Numbers
pub mod Spaces
pub mod Bridges
pub mod Targets
pub mod Masters
pub mod Boards
pub mod headers
