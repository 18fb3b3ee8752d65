pub mod OneAnswer
pub mod PassedOn
