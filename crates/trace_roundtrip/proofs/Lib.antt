pub mod NewlineLemmas
pub mod BoardPartLemmas
pub mod EventPartLemmas
pub mod TraceLemmas
pub mod CommentLemmas
