pub mod GrammarParts
pub mod Unification
pub mod Values
