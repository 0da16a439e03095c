mod BegunLemmas
mod EarlyLemmas
mod IdleLemmas
mod RingLemmas
mod TurnsLemmas
pub mod WordLemmas
