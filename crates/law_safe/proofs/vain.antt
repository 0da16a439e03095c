pub mod VainLemmas
pub mod Laws
