pub mod Going
pub mod Judging
