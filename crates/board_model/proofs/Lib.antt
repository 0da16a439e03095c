pub mod FormLemmas
pub mod FewLemmas
pub mod OpLemmas
pub mod Laws
pub mod RangeLemmas
