pub mod Within
pub mod PartLaw
pub mod OneAnswer
