pub mod Sentences
pub mod Templates
