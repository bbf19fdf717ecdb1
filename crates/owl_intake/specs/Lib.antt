pub mod Checked
pub mod Input
