pub mod ReadLemmas
pub mod StandsLemmas
pub mod ChainLemmas
pub mod LineLemmas
pub mod FoundLemmas
pub mod AuditLemmas
pub mod SearchLemmas
pub mod KeptLemmas
