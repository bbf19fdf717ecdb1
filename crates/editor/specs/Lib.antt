pub mod Editing
pub mod Rebasing
