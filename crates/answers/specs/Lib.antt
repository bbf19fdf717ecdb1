pub mod Answered
pub mod Asserted
pub mod Fit
pub mod Single
