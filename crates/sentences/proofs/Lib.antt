pub mod FilledLaw
pub mod OneAnswer
