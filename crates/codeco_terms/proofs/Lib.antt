pub mod UnificationLemmas
