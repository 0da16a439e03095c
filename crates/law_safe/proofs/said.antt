pub mod OrderedLemmas
pub mod SaidLemmas
pub mod Laws
