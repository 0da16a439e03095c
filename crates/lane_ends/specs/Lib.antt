pub mod plain
pub mod ring
