pub mod OrderLaws
pub mod PlaceLemmas
pub mod ChangeLemmas
pub mod KeepingLaws
