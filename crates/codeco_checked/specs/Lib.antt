pub mod Occurrences
pub mod Numbering
pub mod Faults
pub mod Labels
pub mod Sound
pub mod FirstFault
