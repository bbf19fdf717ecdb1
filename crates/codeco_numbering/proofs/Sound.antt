-- The grammar that declarations and rules make is sound where they have no fault.
pub mod Contents
pub mod Counts
pub mod Declared
pub mod Doubles
pub mod Faults
pub mod Features
pub mod Lowered
pub mod Mentions
pub mod Names
pub mod Numbered
pub mod Order
pub mod Rules
pub mod Sets
pub mod Spelled
pub mod Tables
pub mod VariableSets
pub mod Variables
