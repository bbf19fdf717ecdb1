pub mod Elements
pub mod Entries
pub mod Extents
pub mod Named
pub mod Related
