pub mod OrderLaws
pub mod PlaceLemmas
pub mod BareLaws
