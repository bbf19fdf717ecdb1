pub mod Printing
pub mod Unnumbered
pub mod Writing
