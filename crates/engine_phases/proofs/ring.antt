pub mod CountLemmas
pub mod BegunLemmas
pub mod RoundLemmas
