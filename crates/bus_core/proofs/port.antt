pub mod MoveLemmas
pub mod PortLemmas
pub mod ReplyLemmas
