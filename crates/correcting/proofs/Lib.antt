pub mod CorrectLaw
pub mod OneAnswer
