pub mod SearchLemmas
pub mod KeptLemmas
pub mod WalkLemmas
pub mod PushLemmas
pub mod PendingLemmas
