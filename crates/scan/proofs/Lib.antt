pub mod TallyLaw
pub mod RunLaw
pub mod VisitLaw
pub mod WordLaw
pub mod OneAnswer
