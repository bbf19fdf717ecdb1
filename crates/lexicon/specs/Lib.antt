pub mod Index
pub mod Kinds
pub mod Readings
pub mod Suggest
pub mod Terminals
pub mod Words
