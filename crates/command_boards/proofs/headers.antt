pub mod ReadBackLemmas
