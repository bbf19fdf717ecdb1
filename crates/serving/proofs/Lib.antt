pub mod DeliverLemmas
pub mod EventLemmas
pub mod InLineLemmas
pub mod JournalLaws
pub mod OpenLemmas
pub mod ServeLemmas
