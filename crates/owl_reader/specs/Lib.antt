pub mod Claims
pub mod Grammar
pub mod Names
pub mod Outcomes
pub mod Reading
pub mod Shown
pub mod Views
