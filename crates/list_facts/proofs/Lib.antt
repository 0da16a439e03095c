pub mod TotalLemmas
pub mod FindLemmas
pub mod EachLemmas
pub mod TestLemmas
pub mod NumberLemmas
pub mod FoundLemmas
pub mod AnyLemmas
