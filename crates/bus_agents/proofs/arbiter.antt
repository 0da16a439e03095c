mod AheadLemmas
mod CountLemmas
mod RoundLemmas
