pub mod Knowers
