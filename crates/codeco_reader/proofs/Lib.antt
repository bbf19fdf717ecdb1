pub mod Answered
pub mod OneGrammar
