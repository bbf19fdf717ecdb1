pub mod Words
pub mod Sentences
pub mod Imported
pub mod Steps
