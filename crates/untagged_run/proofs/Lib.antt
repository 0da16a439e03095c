pub mod TableLemmas
pub mod OriginLemmas
pub mod FollowLemmas
pub mod StepLemmas
