pub mod RaiseLemmas
pub mod FirstLemmas
pub mod NextLemmas
