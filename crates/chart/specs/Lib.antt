pub mod Charts
pub mod Offers
