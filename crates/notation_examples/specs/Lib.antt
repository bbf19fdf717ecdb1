pub mod Smallest
