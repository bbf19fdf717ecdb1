pub mod AccessList
pub mod Links
pub mod Resolution
pub mod Findings
