pub mod Answers
pub mod CheckTable
