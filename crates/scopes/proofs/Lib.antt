pub mod ClosestLemmas
pub mod ClosingLemmas
pub mod NewestLemmas
