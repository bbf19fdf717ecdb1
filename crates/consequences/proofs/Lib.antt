pub mod ForcedLemmas
pub mod ShowsLemmas
