pub mod Turning
pub mod Recalling
pub mod Laws
