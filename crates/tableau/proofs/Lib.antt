pub mod Bounded
pub mod Stands
pub mod WayLemmas
pub mod Within
