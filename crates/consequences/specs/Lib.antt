pub mod Forced
pub mod Known
pub mod Shows
