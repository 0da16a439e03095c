pub mod Pages
pub mod strips
