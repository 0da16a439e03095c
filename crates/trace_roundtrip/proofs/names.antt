pub mod PartLemmas
pub mod NumberLemmas
pub mod NameLemmas
pub mod PlaceLemmas
pub mod TargetLemmas
pub mod MarkLemmas
pub mod ThereLemmas
pub mod OperationLemmas
