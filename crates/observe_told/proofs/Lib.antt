pub mod WovenLemmas
