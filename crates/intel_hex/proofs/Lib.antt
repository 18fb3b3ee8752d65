pub mod RecordLaw
pub mod WritingLaw
pub mod AnswerLaw
pub mod OneAnswer
