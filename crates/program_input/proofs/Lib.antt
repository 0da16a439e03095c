pub mod RefusalLemmas
pub mod TraceLemmas
pub mod TreeLemmas
pub mod DevicesLemmas
pub mod ProtocolLemmas
