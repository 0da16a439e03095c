pub mod Pages
pub mod shown
pub mod Sentences
pub mod Spots
