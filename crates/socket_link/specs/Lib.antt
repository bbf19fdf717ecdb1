pub mod Deeds
pub mod Kept
pub mod Moved
pub mod Round
pub mod Told
