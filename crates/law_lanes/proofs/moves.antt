pub mod MoveLemmas
pub mod Laws
