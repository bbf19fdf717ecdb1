pub mod OneKnowledge
pub mod PartLemmas
