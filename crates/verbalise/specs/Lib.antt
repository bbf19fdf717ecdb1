pub mod Phrases
pub mod Readings
pub mod Said
pub mod Same
pub mod Spoken
pub mod Vocabulary
