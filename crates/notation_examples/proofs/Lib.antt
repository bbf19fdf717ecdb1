pub mod SmallestSound
