pub mod Answers
pub mod Mendable
