pub mod Articles
pub mod Places
