pub mod HitLemmas
pub mod TellLemmas
pub mod StandLemmas
pub mod Laws
