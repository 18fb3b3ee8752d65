pub mod Answers
pub mod Directory
