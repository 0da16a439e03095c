pub mod writes
