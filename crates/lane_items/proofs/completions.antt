pub mod CompletionLemmas
