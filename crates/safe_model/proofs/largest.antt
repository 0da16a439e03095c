pub mod TestLemmas
pub mod ConsistentLemmas
pub mod RiseLemmas
pub mod Laws
