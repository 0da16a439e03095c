pub mod CoverLemmas
pub mod OnceLemmas
pub mod InOrderLemmas
pub mod Laws
