pub mod Basics
pub mod CarryFits
pub mod ClashFits
pub mod Fitting
pub mod Soundness
pub mod StartFits
pub mod StepFits
pub mod TreeLaws
