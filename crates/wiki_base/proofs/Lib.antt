pub mod BoolLaws
pub mod ListLaws
pub mod NumberLaws
pub mod OptionLaws
pub mod TextLemmas
