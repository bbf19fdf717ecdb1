pub mod Adding
mod Changing
mod Keys
mod Letters
mod Others
pub mod Owners
mod Places
pub mod Reading
pub mod Regrounding
