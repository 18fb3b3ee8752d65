pub mod VoteLaw
pub mod AgreeLaw
pub mod MetLaw
pub mod MendingLaw
pub mod OneAnswer
