pub mod Wiki
pub mod Lines
pub mod Completeness
pub mod Standing
pub mod Theorem
pub mod Sockets
pub mod Steps
