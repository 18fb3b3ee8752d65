pub mod Answers
pub mod Runs
pub mod Tally
