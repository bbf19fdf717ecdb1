pub mod Order
pub mod Paths
pub mod Ways
pub mod Earliest
pub mod Outcomes
pub mod Tables
