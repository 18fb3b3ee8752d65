pub mod ApartLaw
pub mod SpanLaw
pub mod AnswersLaw
pub mod OneAnswer
