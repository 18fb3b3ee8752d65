pub mod Answers
pub mod Spans
