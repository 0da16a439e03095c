pub mod Flat
pub mod Table
pub mod Gots
pub mod Course
pub mod told
