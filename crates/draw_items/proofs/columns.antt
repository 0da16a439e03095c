pub mod MostLemmas
pub mod LayoutLemmas
