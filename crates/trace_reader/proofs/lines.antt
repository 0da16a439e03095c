pub mod CutLemmas
mod ShapeLemmas
mod NameLemmas
mod GuessLemmas
mod DigitLemmas
mod ScanLemmas
pub mod ReadLemmas
