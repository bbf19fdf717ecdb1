pub mod Kinds
pub mod Limits
pub mod Refusals
pub mod Statuses
pub mod Turns
