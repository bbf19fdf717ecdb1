pub mod SayLemmas
pub mod CaseLemmas
pub mod ReasonLines
