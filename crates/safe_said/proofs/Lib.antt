pub mod LandingLemmas
pub mod MemberLemmas
pub mod ChainLemmas
pub mod RunLemmas
pub mod OpenLemmas
pub mod NamedLemmas
pub mod LineLemmas
