pub mod RejectedLaw
pub mod OneAnswer
