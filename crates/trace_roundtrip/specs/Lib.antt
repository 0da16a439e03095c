pub mod Printed
pub mod Comments
pub mod events
pub mod runs
