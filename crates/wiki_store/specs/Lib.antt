pub mod Putting
pub mod Asking
pub mod PuttingBack
pub mod Remembered
pub mod Spending
pub mod Rewording
pub mod Sameness
pub mod Settled
