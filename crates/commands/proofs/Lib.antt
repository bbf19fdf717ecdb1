pub mod RunLemmas
pub mod ServeLemmas
pub mod CompletenessLemmas
pub mod StandingLemmas
pub mod MakeLemmas
pub mod StatusLemmas
pub mod RetellLemmas
pub mod FileLemmas
