pub mod OptionLemmas
pub mod FormLemmas
