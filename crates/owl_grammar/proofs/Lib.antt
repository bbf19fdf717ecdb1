mod Machine
pub mod Numbers
pub mod Words
mod Readings
mod Counts
mod Stacks
mod States
mod Found
mod Goes
mod Refusals
mod Stops
