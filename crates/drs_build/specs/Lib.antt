pub mod Joining
pub mod Meanings
pub mod Nodes
pub mod Order
pub mod Made
pub mod Built
