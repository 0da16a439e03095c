pub mod headers
pub mod combine
pub mod import
pub mod tree
