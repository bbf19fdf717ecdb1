pub mod ClassFits
pub mod FrameFits
pub mod ReadFits
pub mod IndividualLemmas
pub mod InputLemmas
pub mod CheckLemmas
