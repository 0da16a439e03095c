pub mod Decoding
pub mod ReadBack
pub mod Hops
pub mod Lengths
pub mod Text
