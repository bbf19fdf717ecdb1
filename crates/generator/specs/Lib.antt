pub mod Drawn
pub mod Requests
pub mod Summary
