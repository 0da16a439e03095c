pub mod MoveLemmas
pub mod SideLemmas
pub mod RoomLemmas
pub mod FullLemmas
pub mod SettleLemmas
pub mod Laws
