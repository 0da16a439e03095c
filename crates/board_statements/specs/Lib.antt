pub mod Words
pub mod Keywords
pub mod Bridges
pub mod Targets
pub mod Masters
pub mod Statements
