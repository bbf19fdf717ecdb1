pub mod Journal
pub mod Handling
pub mod Changes
pub mod Delivering
pub mod Events
pub mod Coming
