pub mod SpacedLemmas
