pub mod KnownLemmas
pub mod LinkLemmas
pub mod LineLemmas
pub mod PartLemmas
pub mod ReadingLemmas
pub mod StepLemmas
