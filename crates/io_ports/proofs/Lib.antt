pub mod AppendLemmas
