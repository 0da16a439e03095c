pub mod WorkLemmas
pub mod ReceiveLemmas
pub mod LineLemmas
pub mod AskLemmas
pub mod ServeLemmas
pub mod QuietLemmas
pub mod AgainLemmas
