pub mod Faults
pub mod Found
pub mod Holding
pub mod Judgements
pub mod Kept
pub mod Sound
pub mod Spending
