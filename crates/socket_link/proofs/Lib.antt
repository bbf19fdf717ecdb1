pub mod DeedLemmas
pub mod RightLemmas
pub mod SoundLemmas
pub mod ToldLemmas
