pub mod Enough
pub mod Fragments
