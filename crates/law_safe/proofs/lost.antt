pub mod LostLemmas
pub mod NowhereLemmas
pub mod WholeLemmas
pub mod Laws
