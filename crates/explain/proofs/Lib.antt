pub mod ReasonLemmas
