pub mod RegionLaw
pub mod KindsLaw
pub mod AnswersLaw
pub mod EntriesForLaw
pub mod OneAnswer
