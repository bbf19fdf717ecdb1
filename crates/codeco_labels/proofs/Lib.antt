pub mod AllowedLemmas
pub mod TableLemmas
pub mod BoundLemmas
pub mod ShapeLemmas
pub mod RowLemmas
pub mod MisfitLemmas
