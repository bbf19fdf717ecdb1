pub mod Bases
pub mod Attempts
pub mod Chosen
pub mod Known
