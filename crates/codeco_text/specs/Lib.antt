pub mod Names
pub mod Notation
pub mod Reading
pub mod Building
pub mod Scanning
pub mod Scanner
