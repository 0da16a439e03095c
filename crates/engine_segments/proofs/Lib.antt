pub mod NumberLemmas
pub mod LaneLemmas
pub mod FewLemmas
pub mod PortLemmas
pub mod FirstLemmas
pub mod SegmentLemmas
