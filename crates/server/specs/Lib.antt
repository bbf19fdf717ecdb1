pub mod Responses
pub mod Kept
pub mod Taking
pub mod Reading
pub mod Runs
