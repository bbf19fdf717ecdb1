pub mod Firsts
pub mod NoModel
