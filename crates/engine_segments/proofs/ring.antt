pub mod PairLemmas
pub mod RingLemmas
