pub mod BeginsLemmas
pub mod KindLemmas
pub mod FallLemmas
pub mod Laws
