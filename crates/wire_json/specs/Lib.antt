pub mod Replies
pub mod Requests
pub mod Told
pub mod Values
