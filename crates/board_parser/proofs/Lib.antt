pub mod ReaderLemmas
pub mod WordKindLemmas
pub mod FormLemmas
pub mod StatementLemmas
pub mod ReadingLemmas
