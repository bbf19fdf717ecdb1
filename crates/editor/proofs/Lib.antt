pub mod NothingLemmas
pub mod EditingLemmas
pub mod KnownLemmas
pub mod ReadLemmas
pub mod WordLemmas
pub mod FilterLemmas
