pub mod FloatLemmas
pub mod LineLemmas
pub mod TextLemmas
pub mod ReadLemmas
pub mod LengthLemmas
pub mod RequestLaws
pub mod CutLemmas
pub mod CutLaws
