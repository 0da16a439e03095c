pub mod OneLine
pub mod Boards
pub mod draft
