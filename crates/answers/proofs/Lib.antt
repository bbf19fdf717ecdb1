pub mod AskedLemmas
pub mod DenyingLemmas
pub mod KnownLemmas
