pub mod ScrubbingLaw
pub mod OneAnswer
