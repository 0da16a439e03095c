pub mod adverse
pub mod safe
