pub mod Lane
pub mod posts
pub mod requests
pub mod completions
