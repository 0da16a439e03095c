pub mod BoardLine
pub mod Device
pub mod LogLine
pub mod Lspci
pub mod TraceLine
pub mod Tree
