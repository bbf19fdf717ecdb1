pub mod Early
pub mod Fitting
pub mod Labels
pub mod Numbered
