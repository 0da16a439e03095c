pub mod Counts
pub mod Report
pub mod Tallies
pub mod way_counts
pub mod Lapses
