pub mod Kinds
pub mod Shapes
pub mod Tables
pub mod Misfits
