pub mod SameLemmas
pub mod LeaveLemmas
pub mod LimitLemmas
pub mod ValueLemmas
pub mod VerdictLemmas
