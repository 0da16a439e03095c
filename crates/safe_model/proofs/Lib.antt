pub mod OpsLemmas
pub mod WordLemmas
pub mod tables
pub mod largest
pub mod said
