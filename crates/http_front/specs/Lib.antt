pub mod Numbers
pub mod Fields
pub mod Routes
pub mod Forms
pub mod Asked
pub mod Front
pub mod Cuts
