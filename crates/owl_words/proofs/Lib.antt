pub mod AttemptLemmas
pub mod BaseLemmas
pub mod KnownLemmas
pub mod NotingLemmas
