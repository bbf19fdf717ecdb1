pub mod Cases
pub mod Files
pub mod Saying
pub mod Why
