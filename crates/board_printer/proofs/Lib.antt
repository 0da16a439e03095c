pub mod HexLemmas
pub mod LineLemmas
pub mod PartLemmas
