pub mod FoldLemmas
pub mod SafeLemmas
pub mod Laws
