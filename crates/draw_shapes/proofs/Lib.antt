pub mod ShapeLemmas
