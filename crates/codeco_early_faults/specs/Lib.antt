pub mod Counts
pub mod Early
pub mod Pairs
