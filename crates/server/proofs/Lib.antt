pub mod ReadLemmas
pub mod KeptLemmas
pub mod OwnLemmas
pub mod RunLemmas
pub mod StatusLemmas
