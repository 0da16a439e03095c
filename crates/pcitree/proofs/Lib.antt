pub mod FileLemmas
pub mod StopLemmas
pub mod WrittenLemmas
pub mod GivenLemmas
pub mod DoneLemmas
