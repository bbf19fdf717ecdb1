pub mod WritingLemmas
pub mod TokenLemmas
pub mod SpellingLemmas
pub mod FormLemmas
pub mod FitLemmas
pub mod SayingLemmas
pub mod EntityLemmas
pub mod ReadBackLemmas
