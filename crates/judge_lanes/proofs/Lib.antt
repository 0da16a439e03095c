pub mod FreeLemmas
pub mod RoomLemmas
pub mod LaneLemmas
pub mod SumLemmas
pub mod ReachLemmas
pub mod RunningLemmas
pub mod LeaveLemmas
pub mod FoundLemmas
