pub mod Marks
pub mod Steps
pub mod First
pub mod Tables
pub mod Writing
pub mod Order
