pub mod ExactLemmas
pub mod PhraseLemmas
pub mod TruthLemmas
